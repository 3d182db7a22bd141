use Rattle.hc_update.proofs.Rooted.{IsRooted, is-rooted, map-found, open-rooted, root-live}
use Rattle.hc_update.proofs.update.map_for.Goals as goal

pub renew-requires-clause-live : goal.renew-requires-clause-live
renew-requires-clause-live g c = root-live c.root.new.h.view.trail c.args.proto c.in-Ok.root c.in-Ok.ensures.tree c.in-Ok.ensures.root

pub renew-requires-clause-map : goal.renew-requires-clause-map
renew-requires-clause-map g c =
    let v = c.args.h.now.view in
    let w = c.root.new.h.view in
    let e = c.in-Ok.ensures in
    let it : IsRooted v w c.args.of_null.now c.root.new.of_null c.args.proto c.in-Ok.root = is-rooted c.args.h.now c.root.new.h c.args.of_null.now c.root.new.of_null c.args.proto c.in-Ok.root e.root e.still e.null_still e.number e.made e.null e.null_root e.used e.shape e.tree e.heap in
    open-rooted c.maps_are_kept.ensures.law v w c.args.of_null.now c.root.new.of_null c.args.proto c.in-Ok.root c.stands.ensures.heap it c.args.map c.args.n c.requires.map

pub returns-clause-found : goal.returns-clause-found
returns-clause-found g c =
    let v = c.args.h.now.view in
    let w = c.root.new.h.view in
    let e = c.in-Ok.ensures in
    let it : IsRooted v w c.args.of_null.now c.root.new.of_null c.args.proto c.in-Ok.root = is-rooted c.args.h.now c.root.new.h c.args.of_null.now c.root.new.of_null c.args.proto c.in-Ok.root e.root e.still e.null_still e.number e.made e.null e.null_root e.used e.shape e.tree e.heap in
    map-found c.maps_are_kept.ensures.law v w c.args.of_null.now c.root.new.of_null c.args.proto c.in-Ok.root c.stands.ensures.heap it c.renew.new.h.view c.args.map c.renew.result c.args.n c.requires.map c.requires.roots c.renew.ensures.updated
