-- A width behind a name. Assumes nothing.
use mathlib.Core.Path.{◌≡◌, refl, sym, ◌∙◌, ap}
use mathlib.Core.List.{List}
use Prim.Native.Nat.{ℕ, suc, ◌+◌, ◌-◌, ◌<◌, ◌≤◌}
use native.Mathlib.Omega.{arith}
use Rattle.lexer.specs.Tokens.{Placed}
use Rattle.meaning.specs.Reading.{Expect, sign, to_zero, go, is, choose, not_here, step}
use Rattle.meaning.specs.Names.{Names}
use Rattle.lexer.specs.declared.Token.{Token as Seen}
use Rattle.lexer.specs.declared.Kind.TheVariants as kind
use Rattle.lexer.specs.Shown.{sign_number}
use Rattle.lexer.specs.declared.Sign.{Sign}
use Rattle.lexer.specs.declared.Sign.TheVariants as signs
use Rattle.rules.specs.Seen.{fault_of, Sees}
use Rattle.rules.specs.Reads.{read_from, fine, faulted, Behind, NumberRead}
use Rattle.rules.specs.Scopes.{Wide, WidthAt, WidthRead}
use Rattle.rules.proofs.Stepping.{well, ill, past, on_step, is-on, is-off, not-here, faults, yes, no}
use Rattle.rules.proofs.OnNumber.{on-token, Numeric, number_past, number-most, number-refused, number-on}

-- a state in which a sign is expected that declares something is as that sign's, with the names that there are then
pub signed : (text : List ℕ) (pos : ℕ) (ns ms : Names) (x y : Expect) (k : ℕ) → ((t : Placed) → step ns x t ≡ choose (is k t) (go ms y) (not_here t))
    → read_from text pos ns x ≡ read_from text pos ms (sign k y)
unfolding step
signed text pos ns ms x y k h = on-token text pos _ refl ns x _ (h _) ∙ sym (on-token text pos _ refl ms (sign k y) _ refl)

pub width_is : (text : List ℕ) (pos k most f next width : ℕ) → WidthRead text pos k most f next width → f ≡ 0 → WidthAt text pos k most next width
unfolding WidthRead
width_is text pos k most f next width r z = well r z

module _ (text : List ℕ) (pos : ℕ) (t : Seen) (e : Sees text pos t) (wanted : Sign) (most : ℕ) (some : 1 ≤ most) where
  abbrev k : ℕ
  k = sign_number wanted

  pub width_one : t.kind ≡ kind.Sign wanted → WidthRead text pos k most 0 t.after 1
  unfolding WidthRead
  width_one q =
      fine refl (record {
        past = past text pos t e q tt;
        some = omega arith;
        few = some;
        leads = λ ns x names then w. on_step text pos t e ns x _ (w.begins _ ∙ yes _ _ _ (is-on text pos t e wanted q));
      })

  module _ (n : t.kind ≡ kind.Sign wanted → ⊥) where
    pub width-none : (t.kind ≡ kind.Sign signs.LeftBracket → ⊥) → WidthRead text pos k most (fault_of t.kind) t.place 1
    unfolding WidthRead
    width-none m =
        faulted (faults text pos t e) (λ ns x names then w.
        on_step text pos t e ns x _
        (w.begins _ ∙ no _ _ _ (is-off text pos t e wanted n) ∙ no _ _ _ (is-off text pos t e signs.LeftBracket m) ∙ not-here text pos t e))

    module _ (q : t.kind ≡ kind.Sign signs.LeftBracket) (f a p h : ℕ) (num : NumberRead text t.after (most - 1) f a p h) where
      -- behind `[`
      bracket : (ns : Names) (x : Expect) (names : ℕ → Names) (then : ℕ → Expect) (w : Wide ns x k most names then)
          → read_from text pos ns x ≡ read_from text t.after ns w.high
      bracket ns x names then w =
          on_step text pos t e ns x _ (w.begins _ ∙ no _ _ _ (is-off text pos t e wanted n) ∙ yes _ _ _ (is-on text pos t e signs.LeftBracket q))

      pub width-no-number : (f ≡ 0 → ⊥) → WidthRead text pos k most f a 1
      unfolding WidthRead Numeric
      width-no-number b =
          faulted b (λ ns x names then w.
          bracket ns x names then w
          ∙ number-refused text t.after (most - 1) f a p h num b ns _ w.wrong _ w.numeric (λ j l. w.large j (omega arith)))

      module _ (z : f ≡ 0) (g b : ℕ) (zero : Behind text a g b to_zero) where
        pub high-most : h < most
        high-most = let m = number-most text t.after (most - 1) f a p h num z in omega arith

        -- behind h
        behind-high : (ns : Names) (x : Expect) (names : ℕ → Names) (then : ℕ → Expect) (w : Wide ns x k most names then)
            → read_from text pos ns x ≡ read_from text a ns (to_zero (w.ending (suc h)))
        unfolding Numeric
        behind-high ns x names then w =
            bracket ns x names then w ∙ number-on text t.after (most - 1) f a p h num z ns _ w.wrong _ w.numeric (w.small h high-most)

        pub width-open : (g ≡ 0 → ⊥) → WidthRead text pos k most g b 1
        unfolding WidthRead Behind
        width-open v = faulted v (λ ns x names then w. behind-high ns x names then w ∙ ill zero v ns _)

        module _ (y : g ≡ 0) where
          -- behind `]`
          behind-zero : (ns : Names) (x : Expect) (names : ℕ → Names) (then : ℕ → Expect) → Wide ns x k most names then
              → read_from text pos ns x ≡ read_from text b (names (h + 1)) (sign k (then (h + 1)))
          unfolding Behind
          behind-zero ns x names then w =
              behind-high ns x names then w ∙ (well zero y).1 ns _ ∙ signed text b ns _ _ _ k (w.ends (suc h))
              ∙ ap (λ (j : ℕ). read_from text b (names j) (sign k (then j))) (omega arith)

          pub width_read : (i d : ℕ) → Behind text b i d (sign k) → WidthRead text pos k most i d (h + 1)
          unfolding WidthRead Behind
          width_read i d (fine o (l, on)) =
              let u = past text pos t e q tt in
              let v = number_past text t.after (most - 1) f a p h num z in
              let x = (well zero y).0 in
              let m = high-most in
              fine o (record {
                past = (omega arith, l.1);
                some = omega arith;
                few = omega arith;
                leads = λ ns x names then w. behind-zero ns x names then w ∙ on _ _;
              })
          width_read i d (faulted o on) = faulted o (λ ns x names then w. behind-zero ns x names then w ∙ on _ _)

-- a refusal is the same whatever stands for the width
pub width-again : (text : List ℕ) (pos k most f next width other : ℕ) → (f ≡ 0 → ⊥) → WidthRead text pos k most f next width → WidthRead text pos k most f next other
unfolding WidthRead
width-again text pos k most f next width other n r = faulted n (ill r n)
