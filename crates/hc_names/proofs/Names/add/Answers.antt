use Rattle.std.proofs.Common.{◌≡◌, ◌++◌, ◌∷◌, [], false, map, length, sym, subst, ap, ◌∙◌, arith, length-append}
use Rattle.std.specs.String.{string_bytes}
use Rattle.std.proofs.lemmas.List.{length-map}
use Rattle.std.specs.Str.{bytes_eq}
use Rattle.hc_names.specs.Names.{HasNoRepeats, has_text}
use Rattle.hc_names.proofs.Lists.{strings-insert_key, HasNoRepeats-push, slice_get-more, slice_get-last, position_or_len-none}
use Rattle.hc_names.proofs.Names.add.Goals as goal

-- the names afterwards
added : (c : goal.In-Ok-insert) → map string_bytes c.insert.new.self.keys ≡ c.args.self.now ++ c.args.text.now ∷ []
added c =
    let absent : has_text (map string_bytes c.self.inside.texts.keys) c.args.text.now ≡ false = ap (λ names. has_text names c.args.text.now) c.self.view_is ∙ c.requires.new in
    ap (map string_bytes) c.in-Ok-insert.ensures.keys
    ∙ strings-insert_key c.self.inside.texts.keys c.args.text.now c.in-Ok.owned c.in-Ok.ensures.ok absent
    ∙ ap (λ names. names ++ c.args.text.now ∷ []) c.self.view_is

distinct : (c : goal.In-Ok-insert) → HasNoRepeats (map string_bytes c.insert.new.self.keys)
distinct c =
    let before : HasNoRepeats c.args.self.now = subst HasNoRepeats c.self.view_is c.self.invariant.1 in
    subst HasNoRepeats (sym (added c)) (HasNoRepeats-push c.args.self.now c.args.text.now c.requires.new before)

-- the number is the length before
counted : (c : goal.In-Ok-insert) → c.len-n.result ≡ length c.args.self.now
counted c = c.len-n.ensures.len ∙ sym (length-map c.self.inside.texts.keys string_bytes) ∙ ap length c.self.view_is

pub invariant_of-self-2 : goal.invariant_of-self-2
invariant_of-self-2 c =
    let room = c.requires.room in
    let long = sym (length-map c.insert.new.self.keys string_bytes) ∙ ap length (added c) ∙ length-append c.args.self.now (c.args.text.now ∷ []) in
    (omega (arith, long), distinct c)

pub returns-clause-number : goal.returns-clause-number
returns-clause-number c = counted c ∙ sym (position_or_len-none (bytes_eq c.args.text.now) c.args.self.now c.requires.new)

pub returns-clause-names : goal.returns-clause-names
returns-clause-names c = added c

pub returns-clause-named : goal.returns-clause-named
returns-clause-named c = rw (added c, counted c) (slice_get-last c.args.self.now c.args.text.now)

pub returns-clause-kept : goal.returns-clause-kept
returns-clause-kept c = λ n t h. rw (added c) (slice_get-more c.args.self.now (c.args.text.now ∷ []) n t h)

pub returns-clause-distinct : goal.returns-clause-distinct
returns-clause-distinct c = distinct c
