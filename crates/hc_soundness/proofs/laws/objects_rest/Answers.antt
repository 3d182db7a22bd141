use Rattle.hc_soundness.proofs.laws.objects_rest.Goals as goal

pub returns : goal.returns
returns c = record {
  law = λ v kept of_null h calm. record {
    heap = h.heap;
    items = h.items;
    each = h.each;
    sound = h.sound.sound;
    one_live = λ m g is. (h.tree.maps m g is).live;
    calm = calm;
  };
}
