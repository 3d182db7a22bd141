use Rattle.hc_installed.proofs.Answering.{hits-live}
use Rattle.hc_installed.proofs.laws.hits_are_live.Goals as goal

pub returns : goal.returns
returns g c = record {
  law = λ a sites s o number value rest desk installed hit.
      hits-live c.words_say.ensures.law c.stores_are_writes.ensures.law c.now_is_image.ensures.law c.borne_names_live.ensures.law a rest desk sites s o number value installed hit;
}
