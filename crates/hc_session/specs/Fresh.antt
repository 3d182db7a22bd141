-- What a session keeps.
use Rattle.std.specs.Prelude.{◌≡◌, ◌≤◌, true, false, None, []}
use Rattle.hc_layout.specs.declared.shape.Shape.{Shape}
use Rattle.hc_layout.specs.declared.shape.TheConstants.{USUAL}
use Rattle.hc_value.specs.declared.word.TheConstants.{TEXT_LIMIT}
use Rattle.hc_access.specs.Entries.{AreGood}
use Rattle.hc_compiler.specs.Jobs.{AreReading, no_jobs}
use Rattle.hc_heap.specs.States.{no_items}
use Rattle.hc_modes.specs.Admitting.{IsHonest}
use Rattle.hc_objects.specs.Came.{world_of}
use Rattle.hc_modes.specs.Rest.{AreCalm}
use Rattle.hc_modes.specs.State.{ObjectsState}
use Rattle.hc_session.specs.Jobs.{AreSeen}
use Rattle.hc_session.specs.Plans.{ArePlanned, AreSitesOf}
use Rattle.hc_session.specs.Serving.{AreNamedSites}
use Rattle.hc_session.specs.Standing.{Standing, plain_of}

-- a state in which nothing was done: there is no object, no word was stored, no item handed out and no reader met
pub record IsUntouched {P : Type 0} (objects : ObjectsState P) : Type 0 where
  pub world : world_of objects ≡ []
  pub kept : objects.kept ≡ []
  pub null : objects.of_null ≡ None
  pub trail : objects.heap.view.trail ≡ []
  pub used : objects.heap.view.used ≡ no_items
  pub stores : objects.heap.desk.trail ≡ []
  pub met : objects.heap.desk.met ≡ []

-- a session in which nothing was done: there is no site either, no job, no line of the log and no mark
pub record IsNew {P : Type 0} (session : Standing P) : Type 0 where
  pub objects : IsUntouched session.objects
  pub sites : session.sites ≡ []
  pub compiler : session.compiler ≡ no_jobs
  pub log : session.log ≡ []
  pub marks : session.marks ≡ []
  pub going : session.lacking ≡ false

-- where no command was performed nothing was done; the shape is that of the objects, which may be at most as many as in the usual one;
-- no map is unstable that a prototype has; what each field says of values is true of all objects; each site's name has a number; each
-- entry of an inline cache says where full lookup finds the property; the maps that sites have seen are written; each open job
-- reads the words of these objects, and is one of a site that is there; and as long as no command lacked memory each site's plan is borne, and jobs read at rest
pub record IsSession {P : Type 0} (shape : Shape) (session : Standing P) : Type 0 where
  pub fresh : session.fresh ≡ true → IsNew session
  pub shape_is : shape ≡ session.objects.heap.view.shape
  pub few : session.objects.heap.view.shape.objects ≤ USUAL.objects
  pub calm : AreCalm session.objects.heap.view.trail
  pub honest : IsHonest session.objects.heap.view.trail
  pub names : AreNamedSites TEXT_LIMIT (plain_of session).sites
  pub good : AreGood session.objects session.sites
  pub seen : AreSeen session.objects.heap.view.trail session.sites
  pub reading : AreReading session.objects session.compiler.jobs
  pub opened : AreSitesOf session.sites session.compiler.jobs
  pub planned : session.lacking ≡ false → ArePlanned session.objects session.sites session.compiler.jobs
