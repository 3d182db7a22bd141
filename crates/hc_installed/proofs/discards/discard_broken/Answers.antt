use Rattle.std.proofs.Common.{◌≡◌, ℕ, ◌+◌, ◌<◌, ◌≤◌, ◌++◌, List, [], ◌∷◌, None, drop, length, refl, sym, ap, subst, ◌∙◌, arith}
use Rattle.hc_board.specs.States.{words_of}
use Rattle.hc_modes.specs.Laws.{still-on}
use Rattle.hc_modes.specs.State.{ObjectsState}
use Rattle.hc_sites.specs.Events.{discarded}
use Rattle.hc_sites.specs.State.{with_event}
use Rattle.hc_sites.specs.declared.state.SiteState.{SiteState}
use Rattle.hc_deps.specs.Verdicts.{IsFirstSite, IsNextBroken}
use Rattle.hc_report.specs.declared.line.Line.{Line}
use Rattle.hc_report.specs.declared.line.Line.TheVariants.{Discard}
use Rattle.hc_installed.specs.Discards.{lines_from, plan_count, unbroken_sites}
use Rattle.hc_installed.proofs.Discarding.{end-left, end-lines, found-below, found-count, found-left, found-less, found-line, found-within}
use Rattle.hc_installed.proofs.Tests.{broken_at}
use Rattle.hc_installed.proofs.discards.discard_broken.Goals as goal

pub push-requires : goal.push-requires
push-requires g c =
    let inv = c.loop-site.invariant in
    let same : words_of c.loop-site.objects.heap.desk ≡ words_of c.args.objects.now.heap.desk = ap (λ (s : ObjectsState _). words_of s.heap.desk) inv.still.is in
    let found = subst (λ (words : List ℕ). IsFirstSite c.args.shape words c.loop-site.sites c.loop-site.from c.in-Some.site c.in-Some.dep) same (c.in-Some.ensures.broken (words_of c.loop-site.objects.heap.desk) refl) in
    let less = found-less c.args.shape (words_of c.args.objects.now.heap.desk) c.loop-site.sites c.loop-site.from inv.below c.in-Some.site c.in-Some.dep found in
    record { room = omega (arith, less, inv.room, c.requires.room) }

pub overflow_add-from : goal.overflow_add-from
overflow_add-from g c =
    let inv = c.loop-site.invariant in
    let words = words_of c.args.objects.now.heap.desk in
    let same : words_of c.loop-site.objects.heap.desk ≡ words = ap (λ (s : ObjectsState _). words_of s.heap.desk) inv.still.is in
    let found = subst (λ (w : List ℕ). IsFirstSite c.args.shape w c.loop-site.sites c.loop-site.from c.in-Some.site c.in-Some.dep) same (c.in-Some.ensures.broken (words_of c.loop-site.objects.heap.desk) refl) in
    let within = found-within c.args.shape words c.loop-site.sites c.loop-site.from inv.below c.in-Some.site c.in-Some.dep found in
    let most : c.in-Some.site + 1 ≤ c.len.result = omega (arith, within, inv.count, c.len.ensures) in
    omega (arith, most, c.len.type_inv)

pub loop-site-smaller : goal.loop-site-smaller
loop-site-smaller g c =
    let inv = c.loop-site.invariant in
    let words = words_of c.args.objects.now.heap.desk in
    let same : words_of c.loop-site.objects.heap.desk ≡ words = ap (λ (s : ObjectsState _). words_of s.heap.desk) inv.still.is in
    let found = subst (λ (w : List ℕ). IsFirstSite c.args.shape w c.loop-site.sites c.loop-site.from c.in-Some.site c.in-Some.dep) same (c.in-Some.ensures.broken (words_of c.loop-site.objects.heap.desk) refl) in
    let within = found-within c.args.shape words c.loop-site.sites c.loop-site.from inv.below c.in-Some.site c.in-Some.dep found in
    let count : length c.discard.new.self ≡ length c.loop-site.sites = ap (length {A = SiteState}) c.discard.ensures ∙ found-count c.args.shape words c.loop-site.sites c.loop-site.from inv.below c.in-Some.site c.in-Some.dep found in
    omega (arith, within, count, found.on)

pub loop-site-preserved : goal.loop-site-preserved
loop-site-preserved g c =
    let inv = c.loop-site.invariant in
    let words = words_of c.args.objects.now.heap.desk in
    let same : words_of c.loop-site.objects.heap.desk ≡ words = ap (λ (s : ObjectsState _). words_of s.heap.desk) inv.still.is in
    let found = subst (λ (w : List ℕ). IsFirstSite c.args.shape w c.loop-site.sites c.loop-site.from c.in-Some.site c.in-Some.dep) same (c.in-Some.ensures.broken (words_of c.loop-site.objects.heap.desk) refl) in
    let after = with_event c.loop-site.sites c.in-Some.site discarded in
    let is : c.discard.new.self ≡ after = c.discard.ensures in
    let less = found-less c.args.shape words c.loop-site.sites c.loop-site.from inv.below c.in-Some.site c.in-Some.dep found in
    record {
      still = still-on c.args.objects.now c.loop-site.objects c.next_broken.new.look inv.still c.next_broken.ensures.looks.looks.still;
      left = ap (unbroken_sites c.args.shape words) is ∙ found-left c.args.shape words c.loop-site.sites c.loop-site.from inv.below c.in-Some.site c.in-Some.dep found ∙ inv.left;
      lines = ap (λ (xs : List (ℕ × Line)). xs ++ lines_from c.args.shape words c.args.at (c.in-Some.site + 1) (drop (c.in-Some.site + 1) c.discard.new.self)) c.push.ensures.lines
          ∙ ap (λ (xs : List SiteState). (c.loop-site.log.lines ++ (c.args.at, Discard c.in-Some.site c.in-Some.dep) ∷ []) ++ lines_from c.args.shape words c.args.at (c.in-Some.site + 1) (drop (c.in-Some.site + 1) xs)) is
          ∙ found-line c.args.shape words c.loop-site.sites c.loop-site.from inv.below c.in-Some.site c.in-Some.dep found c.args.at c.loop-site.log.lines ∙ inv.lines;
      count = ap (length {A = SiteState}) is ∙ found-count c.args.shape words c.loop-site.sites c.loop-site.from inv.below c.in-Some.site c.in-Some.dep found ∙ inv.count;
      room = omega (arith, less, inv.room, ap plan_count is, c.push.ensures.room);
      below = subst (λ (xs : List SiteState). (i : ℕ) → i < c.in-Some.site + 1 → broken_at c.args.shape words xs i ≡ None) (sym is) (found-below c.args.shape words c.loop-site.sites c.loop-site.from inv.below c.in-Some.site c.in-Some.dep found);
    }

pub returns-clause-sites : goal.returns-clause-sites
returns-clause-sites g c =
    let inv = c.loop-site.invariant in
    let words = words_of c.args.objects.now.heap.desk in
    let same : words_of c.loop-site.objects.heap.desk ≡ words = ap (λ (s : ObjectsState _). words_of s.heap.desk) inv.still.is in
    let none = subst (λ (w : List ℕ). IsNextBroken c.args.shape w c.loop-site.sites c.loop-site.from None) same (c.in_default.ensures.broken (words_of c.loop-site.objects.heap.desk) refl) in
    sym (end-left c.args.shape words c.loop-site.sites c.loop-site.from inv.below none) ∙ inv.left

pub returns-clause-lines : goal.returns-clause-lines
returns-clause-lines g c =
    let inv = c.loop-site.invariant in
    let words = words_of c.args.objects.now.heap.desk in
    let same : words_of c.loop-site.objects.heap.desk ≡ words = ap (λ (s : ObjectsState _). words_of s.heap.desk) inv.still.is in
    let none = subst (λ (w : List ℕ). IsNextBroken c.args.shape w c.loop-site.sites c.loop-site.from None) same (c.in_default.ensures.broken (words_of c.loop-site.objects.heap.desk) refl) in
    sym (end-lines c.args.shape words c.loop-site.sites c.loop-site.from inv.below none c.args.at c.loop-site.log.lines) ∙ inv.lines
