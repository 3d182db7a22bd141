-- What contracts see of a session.
use Rattle.std.specs.Prelude.{ℕ, Bool, List, ◌++◌, map}
use Rattle.hc_compiler.specs.Jobs.{Compiling, Opening}
use Rattle.hc_jobs.specs.declared.table.OpenJob.{OpenJob}
use Rattle.hc_table.specs.Kept.{Kept as Tables}
use Rattle.hc_objects.specs.Came.{world_of}
use Rattle.hc_modes.specs.State.{ObjectsState}
use Rattle.hc_report.specs.declared.line.Line.{Line}
use Rattle.hc_report.specs.declared.marks.Mark.{Mark}
use Rattle.hc_sites.specs.declared.state.SiteState.{SiteState}
use Rattle.hc_session.specs.Plain.{PlainJobs, PlainState, none_started}

-- the objects with their pace; the sites; the jobs; the log, each line with how many stores there were before it, and the marks;
-- whether no command was performed yet; and whether one lacked memory, after which none is performed
pub record Standing (P : Type 0) : Type 0 where
  pub objects : ObjectsState P
  pub sites : List SiteState
  pub compiler : Compiling
  pub log : List (ℕ × Line)
  pub marks : List Mark
  pub fresh : Bool
  pub lacking : Bool

-- the objects as property tables
abbrev pub tables_of : {P : Type 0} → ObjectsState P → Tables
tables_of objects = record { world = world_of objects; limit = objects.heap.view.shape.objects }

-- objects and sites, as property tables with sites, where no job was started
abbrev pub plain_with : {P : Type 0} → ObjectsState P → List SiteState → PlainState
plain_with objects sites = record { tables = tables_of objects; sites = map (λ (state : SiteState). state.site) sites; jobs = none_started }

-- jobs by their numbers: those that read here, and those that callers have
abbrev pub jobs_of : Compiling → PlainJobs
jobs_of c = record { started = c.started; opened = map (λ (x : OpenJob). x.job.id) c.jobs ++ map (λ (given : Opening). given.job) c.lent }

-- objects, sites and jobs, as property tables with sites and jobs
abbrev pub plain_among : {P : Type 0} → ObjectsState P → List SiteState → Compiling → PlainState
plain_among objects sites c = record (plain_with objects sites) { jobs = jobs_of c }

abbrev pub plain_of : {P : Type 0} → Standing P → PlainState
plain_of session = plain_among session.objects session.sites session.compiler
