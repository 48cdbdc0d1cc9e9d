use Rattle.std.proofs.Common.{◌≡◌, Bool, List, [], ◌∷◌, ◌||◌, map, refl, sym, ap, ◌∙◌, rules, tests}
use Rattle.std.proofs.lemmas.Iterator.{YieldsList-from_slice}
use Rattle.std.proofs.lemmas.Iterator.Search.{any_from_yields_List}
use Rattle.std.specs.List.{list_any}
use Rattle.fh_model.specs.PathRule.{is_bad_name}
use Rattle.fold_path.proofs.names.has_bad_name.Goals as goal

list_any-map : {A B : Type 0} (test : B → Bool) (h : A → B) (items : List A) → list_any test (map h items) ≡ list_any (λ item. test (h item)) items
list_any-map test h [] = refl
list_any-map test h (item ∷ items) = ap (λ rest. test (h item) || rest) (list_any-map test h items)

pub returns : goal.returns
returns c =
    let names = c.args.names.now in
    any_from_yields_List (λ name. is_bad_name name.now) _ _ _ c.any.ensures.ran (YieldsList-from_slice names (cc)) (λ x b q k. search (rules, tests))
    ∙ sym (list_any-map is_bad_name (λ name. name.now) names)
