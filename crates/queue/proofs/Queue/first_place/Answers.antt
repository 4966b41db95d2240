use Rattle.std.proofs.Common.{◌≡◌, ◌∙◌, vec_items, rules}
use Rattle.std.specs.List.{position}
use Rattle.std.proofs.lemmas.Iterator.{YieldsList-from_slice}
use Rattle.std.proofs.lemmas.Iterator.Search.{position_from_yields_List}
use Rattle.queue.specs.Entries.{change_view}
use Rattle.queue.proofs.Places.{place_found}
use Rattle.queue.proofs.Queue.first_place.Goals as goal

pub returns : goal.returns
returns g c = λ means h.
    let found : c.position.result ≡ position (λ x. means (change_view x)) (vec_items c.args.self.now.changes) = position_from_yields_List (λ x. means (change_view x)) _ _ c.position.result c.position.ensures.ran (YieldsList-from_slice (vec_items c.args.self.now.changes) cc) (λ x b q k. (search (rules, k), h x.now b (search (rules, k)))) in
    let same : c.map.result ≡ c.position.result = search rules in
    same ∙ found ∙ place_found change_view means (vec_items c.args.self.now.changes)
