-- `untouched` compares what stands from a place on with as many marks.
use Rattle.std.proofs.Common.{◌≡◌, ℕ, ◌-◌, List, length, take, drop, replicate, refl, sym, ◌∙◌, arith, length-drop, take_all, Decides}
use lib.ListN.{length-replicate}
use Rattle.std.proofs.lemmas.Bool.Decides.{Decides-eqb}
use Rattle.std.proofs.lemmas.Slice.Eq.{slice_eq-Decides}
use Rattle.limits.proofs.untouched.Goals as goal

rest : (s : List ℕ) (n from : ℕ) → length s ≡ n → take (n - from) (drop from s) ≡ drop from s
rest s n from e = take_all (n - from) (drop from s) (omega (arith, length-drop from s))

pub returns : goal.returns
returns c =
    let s = c.args.lent.now in
    let from = c.args.from in
    let marks : List ℕ = replicate 4096 170 in
    let e = rest s (length s) from refl in
    let f = rest marks 4096 from (length-replicate {A = ℕ} 4096 170) in
    let same : Decides c.eq.result (take (length s - from) (drop from s) ≡ take (4096 - from) (drop from marks)) = slice_eq-Decides Decides-eqb _ _ _ c.eq.ensures in
    (λ h. sym e ∙ same.0 h ∙ f, λ h. same.1 (e ∙ h ∙ sym f))
