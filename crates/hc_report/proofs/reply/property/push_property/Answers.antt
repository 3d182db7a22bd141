-- The five pieces of a property, one behind the other.
use Rattle.std.proofs.Common.{◌≡◌, ◌++◌, ℕ, Bool, List, Option, Some, ap, refl, ◌∙◌, append_assoc, codes}
use Rattle.std.specs.Prelude.{not, ◌==◌}
use Rattle.std.specs.Int.RustNames.{bit_and}
use Rattle.std.proofs.lemmas.Result.{on_ok_weaker}
use Rattle.hc_value.specs.Attrs.{bits_of}
use Rattle.hc_value.specs.declared.prop.Prop.{Prop}
use Rattle.hc_report.specs.Text.{bool_text, held_text, property_text}
use Rattle.hc_report.proofs.reply.property.push_property.Goals as goal

five : (start n1 n2 n3 n4 n5 first held word1 flag1 word2 flag2 last : List ℕ) → n1 ≡ start ++ first → n2 ≡ n1 ++ held → n3 ≡ n2 ++ (word1 ++ flag1) → n4 ≡ n3 ++ (word2 ++ flag2) → n5 ≡ n4 ++ last
    → n5 ≡ start ++ ((((((first ++ held) ++ word1) ++ flag1) ++ word2) ++ flag2) ++ last)
five start n1 n2 n3 n4 n5 first held word1 flag1 word2 flag2 last e1 e2 e3 e4 e5 = rw (e5, e4, e3, e2, e1) (simp append_assoc)

shown : (names : List (List ℕ)) (p : Prop) (o : Option Prop) (enumerable configurable : Bool) → o ≡ Some p → enumerable ≡ not (bit_and (bits_of p.attrs) 2 == 2) → configurable ≡ not (bit_and (bits_of p.attrs) 4 == 4)
    → codes "{" ++ held_text names p.attrs p.held ++ codes " enumerable=" ++ bool_text enumerable ++ codes " configurable=" ++ bool_text configurable ++ codes "}" ≡ property_text names o
shown names p o enumerable configurable e f g = rw (e, f, g) refl

pub returns-clause-ok : goal.returns-clause-ok
returns-clause-ok c =
    on_ok_weaker c.push_text-3.result
    (λ e.
    five c.args.out.now.items _ _ _ _ _ (codes "{") (held_text c.args.names.now c.in-Some.property.attrs c.in-Some.property.held)
    (codes " enumerable=") (bool_text c.is_enumerable.result) (codes " configurable=") (bool_text c.is_configurable.result) (codes "}")
    c.in_ok-push_text.ensures.ok c.in_ok-push_held.ensures.ok c.in_ok-push_flag.ensures.ok c.in_ok-push_flag-2.ensures.ok e
    ∙ ap (λ text. c.args.out.now.items ++ text)
    (shown c.args.names.now c.in-Some.property c.args.property.now c.is_enumerable.result c.is_configurable.result
    c.in-Some.is c.is_enumerable.ensures c.is_configurable.ensures))
    c.push_text-3.ensures.ok
