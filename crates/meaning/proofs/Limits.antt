-- Limits, one tick more (docs/REFERENCE.md, F29 to F31 and W6): where the words so far fit every limit, the verdict on the next is that of its tick alone. Assumes nothing.
use mathlib.Core.Path.{◌≡◌, refl, sym, ap, ◌∙◌, subst}
use mathlib.Core.Logic.{⊎_elim}
use mathlib.Core.Bool.{Bool, true, false, not, cond, ◌&&◌}
use mathlib.Core.List.{List, [], ◌∷◌, ◌++◌, append-nil, append_assoc}
use Prim.Native.Nat.{ℕ, suc, ◌+◌}
use Rattle.meaning.specs.Lists.{◌∈◌}
use Rattle.meaning.specs.Expression.{Exp}
use Rattle.meaning.specs.Names.{Limit}
use Rattle.meaning.specs.Fit.{Tick, Verdict, ok, bad}
use Rattle.meaning.specs.Limits.{counts_at, counts_from, beyond, keeps_from, keeps, limits_verdict}
use Rattle.meaning.proofs.ListLaws.{here, there, cons-∈, no-∈, clash}

and-true : (a : Bool) → (a && true) ≡ a
and-true true = refl
and-true false = refl

and_assoc : (a b c : Bool) → (a && (b && c)) ≡ ((a && b) && c)
and_assoc true b c = refl
and_assoc false b c = refl

-- ticks with one more behind them, put behind those before one by one or all together
shift : (before : List Tick) (t : Tick) (ts : List Tick) → (before ++ t ∷ []) ++ ts ≡ before ++ t ∷ ts
shift before t ts = append_assoc before (t ∷ []) ts

pub counts-more : (p : ℕ) (ms : List Exp) (before ts : List Tick) (t : Tick)
    → counts_from p ms before (ts ++ t ∷ []) ≡ counts_from p ms before ts ++ counts_at p ms (before ++ ts) t ∷ []
unfolding counts_from
counts-more p ms before [] t = ap (λ (us : List Tick). counts_at p ms us t ∷ []) (sym (append-nil before))
counts-more p ms before (u ∷ ts) t =
    ap (λ bs. counts_at p ms before u ∷ bs)
    (counts-more p ms (before ++ u ∷ []) ts t ∙ ap (λ (us : List Tick). counts_from p ms (before ++ u ∷ []) ts ++ counts_at p ms us t ∷ []) (shift before u ts))

keeps-more : (l : Limit) (ms : List Exp) (before ts : List Tick) (t : Tick)
    → keeps_from l ms before (ts ++ t ∷ []) ≡ (keeps_from l ms before ts && not (beyond l ms (before ++ (ts ++ t ∷ []))))
unfolding keeps_from
keeps-more l ms before [] t = and-true (not (beyond l ms (before ++ t ∷ [])))
keeps-more l ms before (u ∷ ts) t =
    ap (λ b. not (beyond l ms (before ++ u ∷ [])) && b)
    (keeps-more l ms (before ++ u ∷ []) ts t ∙ ap (λ (us : List Tick). keeps_from l ms (before ++ u ∷ []) ts && not (beyond l ms us)) (shift before u (ts ++ t ∷ [])))
    ∙ and_assoc (not (beyond l ms (before ++ u ∷ []))) (keeps_from l ms (before ++ u ∷ []) ts) (not (beyond l ms (before ++ u ∷ (ts ++ t ∷ []))))

-- every limit fits the ticks
abbrev pub AllKeep : List Limit → List Exp → List Tick → Type 0
AllKeep ls ms ts = (l : Limit) → l ∈ ls → keeps l ms ts ≡ true

-- the lowest limit that the last tick of ts is beyond, counted from i
unfoldable pub beyond_verdict : ℕ → List Limit → List Exp → List Tick → Verdict
beyond_verdict i [] ms ts = ok
beyond_verdict i (l ∷ ls) ms ts = cond (beyond l ms ts) (bad (32 + i)) (beyond_verdict (suc i) ls ms ts)

module _ (ms : List Exp) (ts : List Tick) (t : Tick) where
  -- where the ticks so far fit the limit, it is the next that decides
  keeps-next : (l : Limit) → keeps l ms ts ≡ true → keeps l ms (ts ++ t ∷ []) ≡ not (beyond l ms (ts ++ t ∷ []))
  keeps-next l k = keeps-more l ms [] ts t ∙ ap (λ b. b && not (beyond l ms (ts ++ t ∷ []))) k

  cond-not : (b : Bool) (x y : Verdict) → cond (not b) x y ≡ cond b y x
  cond-not true x y = refl
  cond-not false x y = refl

  pub limits-next : (i : ℕ) (ls : List Limit) → AllKeep ls ms ts → limits_verdict i ls ms (ts ++ t ∷ []) ≡ beyond_verdict i ls ms (ts ++ t ∷ [])
  unfolding limits_verdict beyond_verdict
  limits-next i [] k = refl
  limits-next i (l ∷ ls) k =
      ap (λ b. cond b (limits_verdict (suc i) ls ms (ts ++ t ∷ [])) (bad (32 + i))) (keeps-next l (k l (here refl)))
      ∙ cond-not (beyond l ms (ts ++ t ∷ [])) (limits_verdict (suc i) ls ms (ts ++ t ∷ [])) (bad (32 + i))
      ∙ ap (λ v. cond (beyond l ms (ts ++ t ∷ [])) (bad (32 + i)) v) (limits-next (suc i) ls (λ j n. k j (there n)))

-- no ticks fit every limit
pub none-keep : (ls : List Limit) (ms : List Exp) → AllKeep ls ms []
unfolding keeps_from
none-keep ls ms l i = refl

-- ticks that are ok by the limits fit every one
pub ok-keeps : (i : ℕ) (ls : List Limit) (ms : List Exp) (ts : List Tick) → limits_verdict i ls ms ts ≡ ok → AllKeep ls ms ts
unfolding limits_verdict
ok-keeps i [] ms ts e l j = absurd (no-∈ j)
ok-keeps i (k ∷ ls) ms ts e l j = by (keeps k ms ts) refl e (λ g n. ok-keeps (suc i) ls ms ts g l n)
  where
    by : (b : Bool) → keeps k ms ts ≡ b → cond b (limits_verdict (suc i) ls ms ts) (bad (32 + i)) ≡ ok → (limits_verdict (suc i) ls ms ts ≡ ok → l ∈ ls → keeps l ms ts ≡ true) → keeps l ms ts ≡ true
    by true f g rest = ⊎_elim (λ p. subst (λ (x : Limit). keeps x ms ts ≡ true) (sym p) f) (rest g) (cons-∈ j)
    by false f g rest = clash (cc)
