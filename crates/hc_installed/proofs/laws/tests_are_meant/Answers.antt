use Rattle.hc_installed.proofs.Tests.{tests-meant}
use Rattle.hc_installed.proofs.laws.tests_are_meant.Goals as goal

pub returns : goal.returns
returns c = record { law = tests-meant }
