-- A reply that is true is written so.
use Rattle.std.proofs.Common.{◌≡◌, ℕ, true, List, refl}
use Rattle.std.specs.Prelude.{codes}
use Rattle.hc_value.specs.declared.value.Value.TheVariants.{Bool as Boolean}
use Rattle.hc_value.specs.declared.reply.Reply.{Reply}
use Rattle.hc_value.specs.declared.reply.Reply.TheVariants.{Val, Flag}
use Rattle.hc_report.specs.Summary.{is_true}
use Rattle.hc_report.specs.Text.{reply_text}

pub true_is_text : (names : List (List ℕ)) (reply : Reply) → is_true reply ≡ true → reply_text names reply ≡ codes "true"
true_is_text names (Flag true) is = refl
true_is_text names (Val (Boolean true)) is = refl
true_is_text names reply is = absurd (cc)
