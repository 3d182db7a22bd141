use Rattle.std.proofs.Common.{◌≡◌, ◌≤◌, length, take}
use Rattle.hc_compiler.specs.Feedback.{listed}
use Rattle.hc_compiler.proofs.feedback.maps_in.Given as goal

abbrev pub invariant-loop-place : goal.invariant-loop-place
invariant-loop-place l = (l.maps.items ≡ listed (take l.place-index l.place-items)) × (length l.maps.items ≤ l.place-index)
