use Rattle.std.proofs.Common.{refl}
use Rattle.hc_commands.specs.Grammar.{IsForm}
use Rattle.hc_commands.specs.Request.{form_of}
use Rattle.hc_commands.proofs.Spelling.{name_is_text}
use Rattle.hc_commands.proofs.numbering.command_for.Goals as goal

pub number_for-requires-clause-text : goal.number_for-requires-clause-text
number_for-requires-clause-text c =
    let form : IsForm (form_of c.args.request.now) = c.requires.form in
    let parts = rw c.in-AskProperty.is at form in
    name_is_text c.in-AskProperty.name.now parts.1

pub number_for-requires-in-SetValue-clause-text : goal.number_for-requires-in-SetValue-clause-text
number_for-requires-in-SetValue-clause-text c =
    let form : IsForm (form_of c.args.request.now) = c.requires.form in
    let parts = rw c.in-SetValue.is at form in
    name_is_text c.in-SetValue.name.now parts.1

pub number_for-requires-in-DefineProperty-clause-text : goal.number_for-requires-in-DefineProperty-clause-text
number_for-requires-in-DefineProperty-clause-text c =
    let form : IsForm (form_of c.args.request.now) = c.requires.form in
    let parts = rw c.in-DefineProperty.is at form in
    name_is_text c.in-DefineProperty.name.now parts.1

pub number_for-requires-in-DeclareSite-clause-text : goal.number_for-requires-in-DeclareSite-clause-text
number_for-requires-in-DeclareSite-clause-text c =
    let form : IsForm (form_of c.args.request.now) = c.requires.form in
    let name = rw c.in-DeclareSite.is at form in
    name_is_text c.in-DeclareSite.name.now name

pub returns-in-NewObject : goal.returns-in-NewObject
returns-in-NewObject c = rw c.in-NewObject.is (record { command = refl; names = refl; room = c.requires.room; full = λ e. absurd (cc) })

pub returns-in-LinkPrototype : goal.returns-in-LinkPrototype
returns-in-LinkPrototype c = rw c.in-LinkPrototype.is (record { command = refl; names = refl; room = c.requires.room; full = λ e. absurd (cc) })

pub returns-in-AskObject : goal.returns-in-AskObject
returns-in-AskObject c = rw c.in-AskObject.is (record { command = c.object_command.ensures; names = refl; room = c.requires.room; full = λ e. absurd (cc) })

pub returns-in-CompareObjects : goal.returns-in-CompareObjects
returns-in-CompareObjects c = rw c.in-CompareObjects.is (record { command = refl; names = refl; room = c.requires.room; full = λ e. absurd (cc) })

pub returns-in-CompileSite : goal.returns-in-CompileSite
returns-in-CompileSite c = rw c.in-CompileSite.is (record { command = refl; names = refl; room = c.requires.room; full = λ e. absurd (cc) })

pub returns-in-StepJob : goal.returns-in-StepJob
returns-in-StepJob c = rw c.in-StepJob.is (record { command = refl; names = refl; room = c.requires.room; full = λ e. absurd (cc) })

pub returns-in-StepDuring : goal.returns-in-StepDuring
returns-in-StepDuring c = rw c.in-StepDuring.is (record { command = refl; names = refl; room = c.requires.room; full = λ e. absurd (cc) })

pub returns-in-FinishJob : goal.returns-in-FinishJob
returns-in-FinishJob c = rw c.in-FinishJob.is (record { command = refl; names = refl; room = c.requires.room; full = λ e. absurd (cc) })
