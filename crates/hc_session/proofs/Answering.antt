-- An access as a command of tables with sites.
use Rattle.std.proofs.Common.{◌≡◌, ℕ, ◌<◌, ◌≤◌, Bool, true, false, ◌&&◌, List, [], ◌∷◌, ◌++◌, length, map, Option, Some, None, refl, sym, ap, ◌∙◌, subst, append_assoc, append-nil}
use Rattle.std.specs.Prelude.{◌⊎◌, if◌then◌else◌, is_some, slice_get}
use Rattle.std.proofs.lemmas.Option.{slice_get-map}
use Rattle.hc_board.specs.States.{counted, words_of}
use Rattle.hc_board.specs.Trail.{Access}
use Rattle.hc_layout.specs.declared.shape.Shape.{Shape}
use Rattle.hc_value.specs.declared.reply.Reply.{Reply}
use Rattle.hc_value.specs.declared.reply.Reply.TheVariants.{NoObject, NoSite, WrongSite}
use Rattle.hc_value.specs.declared.value.Value.{Value}
use Rattle.hc_heap.specs.States.{View}
use Rattle.hc_cells.specs.Cells.{with_cell}
use Rattle.hc_access.specs.Accesses.{AskedCell, note_events, site_at, with_events}
use Rattle.hc_ops.specs.Act.{Act}
use Rattle.hc_ops.specs.Get.{get_reply}
use Rattle.hc_ops.specs.Set.{set_act}
use Rattle.hc_modes.specs.Laws.{still-refl}
use Rattle.hc_modes.specs.State.{ObjectsState}
use Rattle.hc_objects.specs.Came.{Came, IsStill, world_of}
use Rattle.hc_objects.specs.Laws.{came-after, only-after}
use Rattle.hc_plan.specs.declared.case.Op.TheVariants.{Load, Store}
use Rattle.hc_plan.specs.declared.case.Site.{Site}
use Rattle.hc_sites.specs.declared.state.SiteState.{SiteState}
use Rattle.hc_table.specs.Changes.{Did, Nothing, after}
use Rattle.hc_table.specs.Kept.{Kept as Tables, with_world}
use Rattle.hc_table.specs.World.{World}
use Rattle.hc_commands.specs.declared.command.Command.TheVariants.{Exec}
use Rattle.hc_installed.specs.Installed.{AreInstalled}
use Rattle.hc_installed.specs.Laws.{AreUnbroken}
use Rattle.hc_report.specs.declared.line.Line.{Line}
use Rattle.hc_session.specs.Asking.{HasAccessed, IsReady}
use Rattle.hc_session.specs.Plain.{PlainState, act_in, exec_act, is_accepted_at, is_access, none_started}
use Rattle.hc_session.specs.Plans.{Chosen, by_plan, by_cache, by_lookup, IsChosen, chosen_line, lines_lost, sites_left}
use Rattle.hc_session.specs.Serving.{Bears, Serves}
use Rattle.hc_session.specs.Standing.{plain_with, tables_of}
use Rattle.hc_session.specs.State.{Became, HasNoted, IsCheap, IsCheapBy, NotedInWant, sites_at}
use Rattle.hc_session.specs.Tables.{IsReplyOf, did_in, is_among, names_among, says}
use Rattle.hc_session.specs.Using.{AreReadied, MovesInWant, uses_if}
use Rattle.hc_session.proofs.Accessed.{among-is, among-not, both-true, first-false, second-false}
use Rattle.hc_session.proofs.Asked.{left-still, lost-still}
use Rattle.hc_session.proofs.Readied.{came-tables, live-tables}
use mathlib.Core.Logic.{inl, inr}

-- an access at sites that tables see so
abbrev pub sees : Tables → List SiteState → PlainState
sees tables sites = record { tables = tables; sites = map (λ (x : SiteState). x.site) sites; jobs = none_started }

-- one that is refused needs no loads
cheap-none : {P : Type 0} (a : ObjectsState P) (sites : List SiteState) (s o : ℕ) (value : Option Value) → IsCheap a a sites (Exec s o value) by_lookup a
cheap-none {P} a sites s o None = λ accepted. tt
cheap-none {P} a sites s o (Some v) = tt

cheap-by : {P : Type 0} (a ready b : ObjectsState P) (sites : List SiteState) (s o : ℕ) (value : Option Value) (chosen : Chosen) → (value ≡ None → IsCheapBy a chosen b) → IsCheap a ready sites (Exec s o value) chosen b
cheap-by {P} a ready b sites s o None chosen cheap = λ accepted. cheap refl
cheap-by {P} a ready b sites s o (Some v) chosen cheap = tt

-- Loads behind it change nothing

view-on : (a b c : View) (p : ℕ) → c ≡ b → (b ≡ a) ⊎ (b ≡ with_cell a p) → (c ≡ a) ⊎ (c ≡ with_cell a p)
view-on a b c p same (inl e) = inl (same ∙ e)
view-on a b c p same (inr e) = inr (same ∙ e)

asked-on : {P : Type 0} (went : P → List Access → List Access → P → Type 0) (a b c : ObjectsState P) → AskedCell went a b → IsStill b c → AskedCell went a c
asked-on {P} went a b c asked still = record {
  only = only-after went a b c asked.only still;
  proto = asked.proto;
  view = view-on a.heap.view b.heap.view c.heap.view asked.proto (ap (λ (x : ObjectsState P). x.heap.view) still.is) asked.view;
}

asked-tables : {P : Type 0} (went : P → List Access → List Access → P → Type 0) (a b : ObjectsState P) → AskedCell went a b → tables_of b ≡ tables_of a
asked-tables {P} went a b asked =
    ap (λ (w : World). record { world = w; limit = b.heap.view.shape.objects }) asked.only.steps.world
    ∙ ap (λ (n : ℕ). record { world = world_of a; limit = n }) (ap (λ (x : Shape). x.objects) asked.only.steps.shape)

module _ {P : Type 0} (went : P → List Access → List Access → P → Type 0) (a : ObjectsState P) (sites : List SiteState) (s o : ℕ) (value : Option Value) where
  became-on : (ready b c : ObjectsState P) (did : Did) → Became went true ready (Exec s o value) did b → IsStill b c → Became went true ready (Exec s o value) did c
  became-on ready b c did (inl came) still = inl (came-after went ready b c did came still)
  became-on ready b c did (inr asked) still = inr (asked.0, asked.1, asked-on went ready b c asked.2 still)

  became-tables : (ready b : ObjectsState P) (did : Did) → Became went true ready (Exec s o value) did b → tables_of b ≡ with_world (tables_of ready) (after did (world_of ready))
  became-tables ready b did (inl came) = came-tables went ready b did came
  became-tables ready b did (inr asked) = subst (λ (d : Did). tables_of b ≡ with_world (tables_of ready) (after d (world_of ready))) (sym asked.1) (asked-tables went ready b asked.2)

  seen : (site : Option Site) → site_at sites s ≡ site → slice_get (plain_with a sites).sites s ≡ site
  seen site is = slice_get-map (λ (x : SiteState). x.site) sites s ∙ is

  pub site-seen : (site : Site) → site_at sites s ≡ Some site → slice_get (plain_with a sites).sites s ≡ Some site
  site-seen site is = seen (Some site) is

  act-is : (site : Option Site) → site_at sites s ≡ site → act_in (plain_with a sites) (Exec s o value) ≡ Some (exec_act (tables_of a) site o value)
  act-is site is = ap (λ (x : Option Site). Some (exec_act (tables_of a) x o value)) (seen site is)

  access-is : (site : Option Site) → site_at sites s ≡ site → is_access (plain_with a sites) (Exec s o value) ≡ is_accepted_at (tables_of a) site o value
  access-is site is = ap (λ (x : Option Site). is_accepted_at (tables_of a) x o value) (seen site is)

  -- an access that is refused
  pub refused : (site : Option Site) (reply : Reply) (log : List (ℕ × Line)) → AreUnbroken a.heap.view.shape (words_of a.heap.desk) sites → site_at sites s ≡ site → exec_act (tables_of a) site o value ≡ says reply → is_accepted_at (tables_of a) site o value ≡ false → Serves went a sites log (Exec s o value) reply a sites log
  refused site reply log unbroken is acts no_it_is_not =
      let act_is : act_in (plain_with a sites) (Exec s o value) ≡ Some (says reply) = act-is site is ∙ ap (λ (x : Act). Some x) acts in
      let not : is_access (plain_with a sites) (Exec s o value) ≡ false = access-is site is ∙ no_it_is_not in
      record {
        reply_is = subst (λ (x : Option Act). IsReplyOf (Exec s o value) x reply) (sym act_is) refl;
        tables_are = subst (λ (x : Option Act). tables_of a ≡ with_world (tables_of a) (after (did_in x) (tables_of a).world)) (sym act_is) refl;
        kept = tt;
        used = record {
          ready = a;
          readied = subst (λ (x : Bool). AreReadied went a (uses_if x (Exec s o value)) a) (sym not) refl;
          done = subst (λ (x : Option Act). Became went (is_access (plain_with a sites) (Exec s o value)) a (Exec s o value) (did_in x) a) (sym act_is) (inl (still-refl a));
        };
        chosen = by_lookup;
        chooses = λ accepted. let f : ⊥ = cc (accepted, not) in absurd f;
        bears = tt;
        sites_are = sym (ap (λ (x : Bool). sites_left a (if x then sites_at a (sites_left a sites) s o (site_at sites s) by_lookup else sites)) not ∙ unbroken.left);
        lines_are = sym (ap (λ (x : Bool). log ++ ((if x then lines_lost a sites else []) ++ ((if x then (counted (length a.heap.desk.trail), chosen_line s by_lookup) ∷ [] else []) ++ lines_lost a (if x then sites_at a (sites_left a sites) s o (site_at sites s) by_lookup else sites)))) not
            ∙ (ap (λ (xs : List (ℕ × Line)). log ++ xs) (unbroken.none (counted (length a.heap.desk.trail))) ∙ append-nil log));
        cheap = cheap-none a sites s o value;
      }

  -- the lines, where plans were discarded after the migration, and at the end
  lines-whole : (log early mid lost : List (ℕ × Line)) (line : ℕ × Line) → mid ≡ (log ++ early) ++ line ∷ [] → mid ++ lost ≡ log ++ (early ++ ((line ∷ []) ++ lost))
  lines-whole log early mid lost line e =
      ap (λ (xs : List (ℕ × Line)). xs ++ lost) e
      ∙ (append_assoc (log ++ early) (line ∷ []) lost ∙ append_assoc log early ((line ∷ []) ++ lost))

  bears-by : (ready : ObjectsState P) (site : Option Site) (mid asked : List SiteState) (chosen : Chosen) → mid ≡ sites_at ready asked s o site chosen → asked ≡ sites_left ready sites → is_access (plain_with ready sites) (Exec s o value) ≡ true → AreInstalled ready.heap.view.shape ready.heap.view.trail mid → Bears ready sites (Exec s o value) chosen
  bears-by ready site mid asked (by_plan case) is left then_is are =
      subst (λ (xs : List SiteState). AreInstalled ready.heap.view.shape ready.heap.view.trail xs) (is ∙ (left ∙ sym (ap (λ (x : Bool). if x then sites_left ready sites else sites) then_is))) are
  bears-by ready site mid asked by_cache is left then_is are = tt
  bears-by ready site mid asked by_lookup is left then_is are = tt

  -- an access that is accepted, once the plans that it broke are discarded
  pub accessed-serves : (b c : ObjectsState P) (mid now : List SiteState) (log log_mid log_now : List (ℕ × Line)) (site : Site) (act : Act) (reply : Reply) → site_at sites s ≡ Some site → exec_act (tables_of a) (Some site) o value ≡ act → is_accepted_at (tables_of a) (Some site) o value ≡ true
      → HasAccessed went a sites log s o site value act reply b mid log_mid → IsStill b c → (value ≡ None → c ≡ b) → now ≡ sites_left b mid → log_now ≡ log_mid ++ lines_lost b mid
      → Serves went a sites log (Exec s o value) reply c now log_now
  accessed-serves b c mid now log log_mid log_now site act reply there acts yes_it_is done still same_loads left lost =
      let ready = done.ready in
      let same : tables_of ready ≡ tables_of a = live-tables went a ready o done.is_ready.made in
      let act_is : act_in (plain_with a sites) (Exec s o value) ≡ Some act = act-is (Some site) there ∙ ap (λ (x : Act). Some x) acts in
      let access_is : is_access (plain_with a sites) (Exec s o value) ≡ true = access-is (Some site) there ∙ yes_it_is in
      let then_is : is_access (plain_with ready sites) (Exec s o value) ≡ true = ap (λ (t : Tables). is_access (sees t sites) (Exec s o value)) same ∙ access_is in
      let line : ℕ × Line = (counted (length ready.heap.desk.trail), chosen_line s done.chosen) in
      let became : Became went true ready (Exec s o value) act.did c = became-on ready b c act.did done.became still in
      let by : mid ≡ (if is_access (plain_with ready sites) (Exec s o value) then sites_at ready (sites_left ready sites) s o (site_at sites s) done.chosen else sites) =
      done.sites_are ∙ (ap (λ (xs : List SiteState). sites_at ready xs s o (Some site) done.chosen) done.is_ready.sites_are
      ∙ (ap (λ (x : Option Site). sites_at ready (sites_left ready sites) s o x done.chosen) (sym there)
      ∙ ap (λ (x : Bool). if x then sites_at ready (sites_left ready sites) s o (site_at sites s) done.chosen else sites) (sym then_is))) in
      record {
        reply_is = subst (λ (x : Option Act). IsReplyOf (Exec s o value) x reply) (sym act_is) done.reply_is;
        tables_are = subst (λ (x : Option Act). tables_of c ≡ with_world (tables_of a) (after (did_in x) (tables_of a).world)) (sym act_is)
            (became-tables ready c act.did became ∙ ap (λ (t : Tables). with_world t (after act.did t.world)) same);
        kept = tt;
        used = record {
          ready = ready;
          readied = subst (λ (x : Bool). AreReadied went a (uses_if x (Exec s o value)) ready) (sym access_is) (ready, done.is_ready.made, refl);
          done = subst (λ (x : Bool). Became went x ready (Exec s o value) (did_in (act_in (plain_with a sites) (Exec s o value))) c) (sym access_is)
              (subst (λ (x : Option Act). Became went true ready (Exec s o value) (did_in x) c) (sym act_is) became);
        };
        chosen = done.chosen;
        chooses = λ accepted. subst (λ (x : Bool). IsChosen ready (if x then sites_left ready sites else sites) s o value done.chosen) (sym then_is)
            (subst (λ (xs : List SiteState). IsChosen ready xs s o value done.chosen) done.is_ready.sites_are done.is_chosen);
        bears = bears-by ready (Some site) mid done.sites_ready done.chosen done.sites_are done.is_ready.sites_are then_is done.installed;
        sites_are = left ∙ (ap (λ (xs : List SiteState). sites_left b xs) by
            ∙ sym (left-still b c (if is_access (plain_with ready sites) (Exec s o value) then sites_at ready (sites_left ready sites) s o (site_at sites s) done.chosen else sites) still));
        lines_are = lost ∙ (lines-whole log (lines_lost ready sites) log_mid (lines_lost b mid) line (done.lines_are ∙ ap (λ (xs : List (ℕ × Line)). xs ++ line ∷ []) done.is_ready.lines_are)
            ∙ (ap (λ (xs : List (ℕ × Line)). log ++ (lines_lost ready sites ++ ((line ∷ []) ++ xs))) (sym (lost-still b c mid still))
            ∙ (ap (λ (xs : List SiteState). log ++ (lines_lost ready sites ++ ((line ∷ []) ++ lines_lost c xs))) by
            ∙ ap (λ (x : Bool). log ++ ((if x then lines_lost ready sites else []) ++ ((if x then line ∷ [] else []) ++ lines_lost c (if is_access (plain_with ready sites) (Exec s o value) then sites_at ready (sites_left ready sites) s o (site_at sites s) done.chosen else sites)))) (sym then_is))));
        cheap = cheap-by a ready c sites s o value done.chosen (λ none. subst (λ (x : ObjectsState P). IsCheapBy a done.chosen x) (sym (same_loads none)) (done.cheap none));
      }

  -- what is left for want of memory, where it is accepted
  pub wants-by : (site : Site) (b : ObjectsState P) → site_at sites s ≡ Some site → is_accepted_at (tables_of a) (Some site) o value ≡ true → MovesInWant went a (o ∷ []) b → MovesInWant went a (uses_if (is_access (plain_with a sites) (Exec s o value)) (Exec s o value)) b
  wants-by site b is yes_it_is moves = subst (λ (x : Bool). MovesInWant went a (uses_if x (Exec s o value)) b) (sym (access-is (Some site) is ∙ yes_it_is)) moves

  pub noted-by : (site : Site) (ready : ObjectsState P) (mid now : List SiteState) (log log_mid log_now : List (ℕ × Line)) → site_at sites s ≡ Some site → is_accepted_at (tables_of a) (Some site) o value ≡ true → IsReady went a sites log o ready mid log_mid
      → now ≡ with_events mid s (note_events ready mid s o) → log_now ≡ log_mid → NotedInWant went a sites log (Exec s o value) now log_now
  noted-by site ready mid now log log_mid log_now is yes_it_is is_ready noted lined =
      let same : tables_of ready ≡ tables_of a = live-tables went a ready o is_ready.made in
      let access_is : is_access (plain_with a sites) (Exec s o value) ≡ true = access-is (Some site) is ∙ yes_it_is in
      let then_is : is_access (plain_with ready sites) (Exec s o value) ≡ true = ap (λ (t : Tables). is_access (sees t sites) (Exec s o value)) same ∙ access_is in
      inr (
        ready,
        subst (λ (x : Bool). AreReadied went a (uses_if x (Exec s o value)) ready) (sym access_is) (ready, is_ready.made, refl),
        record {
          sites_are = noted ∙ (ap (λ (xs : List SiteState). with_events xs s (note_events ready xs s o)) is_ready.sites_are
              ∙ ap (λ (x : Bool). if x then with_events (sites_left ready sites) s (note_events ready (sites_left ready sites) s o) else sites) (sym then_is));
          lines_are = lined ∙ (is_ready.lines_are ∙ ap (λ (x : Bool). log ++ (if x then lines_lost ready sites else [])) (sym then_is));
        },
      )

-- Accesses that are refused

module _ {P : Type 0} (went : P → List Access → List Access → P → Type 0) (a : ObjectsState P) (sites : List SiteState) (log : List (ℕ × Line)) (s o : ℕ) (unbroken : AreUnbroken a.heap.view.shape (words_of a.heap.desk) sites) where
  pub site-missing : (value : Option Value) → site_at sites s ≡ None → Serves went a sites log (Exec s o value) NoSite a sites log
  site-missing value missing = refused went a sites s o value None NoSite log unbroken missing refl refl

  pub load-given : (name : ℕ) (value : Option Value) → site_at sites s ≡ Some (record { op = Load; name = name }) → is_some value ≡ true → Serves went a sites log (Exec s o value) WrongSite a sites log
  load-given name None there e = let f : ⊥ = cc in absurd f
  load-given name (Some v) there e = refused went a sites s o (Some v) (Some (record { op = Load; name = name })) WrongSite log unbroken there refl refl

  pub load-missing : (name : ℕ) (value : Option Value) → site_at sites s ≡ Some (record { op = Load; name = name }) → value ≡ None → length (world_of a) ≤ o → Serves went a sites log (Exec s o value) NoObject a sites log
  load-missing name value there none past =
      let not = among-not (length (world_of a)) o past in
      subst (λ (x : Option Value). Serves went a sites log (Exec s o x) NoObject a sites log) (sym none)
      (refused went a sites s o None (Some (record { op = Load; name = name })) NoObject log unbroken there (ap (λ (x : Bool). if x then says (get_reply (world_of a) o name) else says NoObject) not) not)

  pub store-given : (name : ℕ) (value : Option Value) → site_at sites s ≡ Some (record { op = Store; name = name }) → ((v : Value) → value ≡ Some v → ⊥) → Serves went a sites log (Exec s o value) WrongSite a sites log
  store-given name None there none = refused went a sites s o None (Some (record { op = Store; name = name })) WrongSite log unbroken there refl refl
  store-given name (Some v) there none = absurd (none v refl)

  module _ (name : ℕ) (value : Option Value) (v : Value) (there : site_at sites s ≡ Some (record { op = Store; name = name })) (is : value ≡ Some v) (count : ℕ) (counts : count ≡ length (world_of a)) where
    unless-among : (is_among (length (world_of a)) o && names_among (length (world_of a)) v) ≡ false → Serves went a sites log (Exec s o value) NoObject a sites log
    unless-among not = subst (λ (x : Option Value). Serves went a sites log (Exec s o x) NoObject a sites log) (sym is)
        (refused went a sites s o (Some v) (Some (record { op = Store; name = name })) NoObject log unbroken there (ap (λ (x : Bool). if x then set_act (world_of a) o name v else says NoObject) not) not)

    pub store-past : count ≤ o → Serves went a sites log (Exec s o value) NoObject a sites log
    store-past past = unless-among (first-false (is_among (length (world_of a)) o) (names_among (length (world_of a)) v) (among-not (length (world_of a)) o (subst (λ (n : ℕ). n ≤ o) counts past)))

    pub store-unnamed : names_among count v ≡ false → Serves went a sites log (Exec s o value) NoObject a sites log
    store-unnamed not = unless-among (second-false (is_among (length (world_of a)) o) (names_among (length (world_of a)) v) (subst (λ (n : ℕ). names_among n v ≡ false) counts not))

-- Accesses that are accepted

pub load-acts : {P : Type 0} (a : ObjectsState P) (o name : ℕ) → o < length (world_of a) → exec_act (tables_of a) (Some (record { op = Load; name = name })) o None ≡ says (get_reply (world_of a) o name)
load-acts {P} a o name there = ap (λ (x : Bool). if x then says (get_reply (world_of a) o name) else says NoObject) (among-is (length (world_of a)) o there)

pub load-accepted : {P : Type 0} (a : ObjectsState P) (o name : ℕ) → o < length (world_of a) → is_accepted_at (tables_of a) (Some (record { op = Load; name = name })) o None ≡ true
load-accepted {P} a o name there = among-is (length (world_of a)) o there

pub store-accepted : {P : Type 0} (a : ObjectsState P) (o name : ℕ) (v : Value) → o < length (world_of a) → names_among (length (world_of a)) v ≡ true → is_accepted_at (tables_of a) (Some (record { op = Store; name = name })) o (Some v) ≡ true
store-accepted {P} a o name v there named = both-true (is_among (length (world_of a)) o) (names_among (length (world_of a)) v) (among-is (length (world_of a)) o there) named

pub store-acts : {P : Type 0} (a : ObjectsState P) (o name : ℕ) (v : Value) → o < length (world_of a) → names_among (length (world_of a)) v ≡ true → exec_act (tables_of a) (Some (record { op = Store; name = name })) o (Some v) ≡ set_act (world_of a) o name v
store-acts {P} a o name v there named = ap (λ (x : Bool). if x then set_act (world_of a) o name v else says NoObject) (store-accepted a o name v there named)
