use Rattle.std.proofs.Common.{◌≡◌, ◌∙◌, ◌++◌, ◌∷◌, [], ap, append_assoc, ℕ, List}
use Rattle.gx_units.proofs.Results_hold.{on_ok}
use Rattle.gx_whatif.specs.Telling.{whatif_members}
use Rattle.gx_whatif.proofs.telling.append_whatif_json.Goals as goal

pub returns : goal.returns
returns c =
    let end : List ℕ = 125 ∷ 10 ∷ [] in
    let members : List ℕ = whatif_members c.args.found.now.records c.args.found.now.changes.items c.args.found.now.rows.items in
    let more : c.append_members.new.text.items ≡ c.args.text.now.items ++ members =
    c.in_ok-append_members.ensures
    ∙ (λ i. c.args.text.now.items ++ whatif_members c.args.found.now.records (c.as_slice.ensures.value i) (c.as_slice-2.ensures.value i)) in
    on_ok c.append.result _ _ (λ t. t ∙ ap (λ (bytes : List ℕ). bytes ++ end) more ∙ append_assoc c.args.text.now.items members end) c.append.ensures.appended
