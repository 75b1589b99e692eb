-- The values, copied as a part, in `live::state::put_values`.
use Rattle.std.proofs.Common.{◌≡◌, ◌∙◌, ◌++◌, ap, ap₂, refl, sym, List, ℕ, get_or, take, drop, arith}
use Rattle.std.proofs.lemmas.List.{take_all, drop-drop}
use borrow.Rule.Slice.PartMut.{put_mid}
use Rattle.live.proofs.StateSteps.{part-stored}
use Rattle.live.proofs.state.put_values.Goals as goal

pub returns : goal.returns
returns c =
    let S = c.args.state.now in
    let σ = c.args.values.now in
    let q : put_mid 16 16 S σ ≡ take 16 S ++ (take 16 σ ++ drop 32 S) = ap₂ (λ (y z : List ℕ). take 16 S ++ (y ++ z)) (sym (take_all 16 σ (omega arith))) (drop-drop 16 16 S) in
    ap (put_mid 16 16 S) c.copy_from_slice.ensures.after ∙ q ∙ part-stored (λ i. get_or σ i 0) 16 16 S σ (omega arith) (omega arith) (λ j b. refl)
