-- What the search answers is what pick wants of a seated board: the seam between this crate's promises and the paper's. Assumes nothing.
use mathlib.Core.Path.{◌≡◌, sym, ap₂, ◌∙◌}
use mathlib.Core.Bool.{Bool, not, ◌&&◌, ◌||◌}
use mathlib.Core.List.{List}
use Prim.Native.Nat.{ℕ}
use native.Mathlib.Omega.{arith}
use lib.Dec.{leb}
use Rattle.paper.specs.Table.{kind}
use Rattle.paper.specs.Choices.{Board}
use Rattle.paper.specs.Operations.{named, wanted}
use Rattle.offers.specs.declared.Offers.{Offers}
use Rattle.pick_bounds.specs.Net.{held}
use Rattle.pick_bounds.specs.declared.Wanted.{Wanted}
use Rattle.ends_masks.specs.Seating.{Stands, served, allowed}
use Rattle.ends_masks.specs.declared.Ends.{Ends}
use Rattle.ends_masks.proofs.Rules.{held-kind}
use Rattle.ends_masks.proofs.Allowed.{wanted-rows}
use Rattle.pick_rules.specs.Rules.{holds, Roomy}

-- stocks of a good marking are within their uppers
pub roomy : {t : List ℕ} {d : Board} {o : Offers} {es : Ends} {runs stock : List ℕ} → Stands t d o es runs stock → Roomy t stock
roomy {t} s i l k = let e = s.told.stocks i l (held-kind (kind t i) k) in let f = s.roomy i in omega arith

-- a net that says what is allowed, with what is asked for the node i, says what pick wants
pub sought : {t : List ℕ} {d : Board} {o : Offers} {es : Ends} {runs stock : List ℕ} → Stands t d o es runs stock
    → (net : List ℕ) (count i : ℕ) (want : Wanted)
    → ((c : ℕ) → holds net count es.count c ≡ allowed t o es runs stock c)
    → ((c : ℕ) → leb want.least (held es.count c want.ends) ≡ not (named i) || served es.target es.home es.count c i)
    → (c : ℕ) → holds net count es.count c && leb want.least (held es.count c want.ends) ≡ wanted d i c
sought {t} {d} {o} {es} {runs} {stock} s net count i want h w c =
    ap₂ (λ (a b : Bool). a && b) (h c) (w c) ∙ sym (wanted-rows t d o s.beside s.trees es c s.seated runs stock s.told i)
