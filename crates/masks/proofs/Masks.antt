-- Masks are right: for literals that agree, a word passes their masks exactly where it meets them all, and two such lists agree together exactly where their masks are compatible.
-- Bit by bit. Assumes nothing.
use mathlib.Core.List.{List, [], ◌∷◌, ◌++◌}
use mathlib.Core.Bool.{Bool, true, false, not, cond, ◌&&◌, ◌||◌}
use mathlib.Core.Path.{◌≡◌, refl, sym, ap, ap₂, ◌∙◌, subst}
use mathlib.Core.Logic.{◌⊎◌, inl, inr, ⊎_elim}
use Prim.Native.Nat.{ℕ, ◌+◌, ◌*◌, ◌-◌, ◌/◌, ◌%◌, ◌^◌, ◌≤◌, ◌<◌}
use native.Mathlib.Omega.{arith}
use native.Mathlib.Nat.{add_comm, mod-lt, lt_of_lt_of_le, mod-eq_of_lt}
use native.Mathlib.Decide.{dec_lt}
use lib.Dec.{T, eqb, leb, ltb, eqb_refl, eqb→eq, leb→le, ltb→lt}
use lib.Bits.{bit_and, bit_or, or_lt, or_comm, or_zero_l}
use lib.Pow.{pow_pos, pow_mono, shl-shr, shl_lt, ones_lt}
use borrow.Author.Tests.{le-leb, lt-leb, lt-ltb, le-ltb}
use Rattle.meaning.specs.Lists.{◌∈◌, any, all}
use Rattle.meaning.specs.Expression.{Literal, wire, wire_store, wire_past, store, field, bit}
use Rattle.meaning.specs.Shape.{wire_holds}
use Rattle.meaning.specs.ShapeTests.{asks, agree, Sized, AllSized}
use Rattle.meaning.proofs.ListLaws.{here, there, cons-∈, no-∈, append-∈, ∈-left, ∈-right, and_T, T_and, all-at, all_from, any-from, any-to, same_truth, clash}
use Rattle.meaning.proofs.Bits.{agree-if, all_append, met-if, bit-field, same_bits, asked-bit, digit-is, asks-own, in-below}
use Rattle.masks.specs.Wires.{passes}
use Rattle.masks.specs.Masks.{look_of, want_of, held_of, look, want, held, compatible}
use Rattle.masks.proofs.BitLaws.{bit-and, bit-or, bit-lt, bit_below, bit-above, bit-over, bit-ones, zero_bit, Bit, off, on, bit_is}
use Rattle.masks.proofs.ByWires.{passes_then, passes-if, unasked}

-- ---- single bits

or_left : {x y : ℕ} → Bit y → x ≡ 1 → bit_or x y ≡ 1
or_left off e = rw e
or_left on e = rw e

or_right : {x y : ℕ} → Bit x → y ≡ 1 → bit_or x y ≡ 1
or_right off e = rw e
or_right on e = rw e

or_cases : {x y : ℕ} → Bit x → Bit y → bit_or x y ≡ 1 → (x ≡ 1) ⊎ (y ≡ 1)
or_cases off off e = clash e
or_cases off on e = inr refl
or_cases on b e = inl refl

-- Masks that look at no wire in common are compatible.
pub compatible-apart : (a b c d : ℕ) → bit_and a c ≡ 0 → compatible a b c d ≡ true
compatible-apart a b c d e = ap (λ (n : ℕ). passes n d b) e ∙ unasked d b

-- ---- the masks of literals, bit by bit

-- one mask of each literal, all joined: a bit of it is one of a literal's
module _ (one : Literal → ℕ) (mask : List Literal → ℕ) (none : mask [] ≡ 0) (some : (l : Literal) (ls : List Literal) → mask (l ∷ ls) ≡ bit_or (one l) (mask ls)) where
  mask-some : (i : ℕ) (ls : List Literal) → bit i (mask ls) ≡ 1 → (l : Literal) × (l ∈ ls) × (bit i (one l) ≡ 1)
  mask-some i [] h = clash (sym (zero_bit i) ∙ ap (bit i) (sym none) ∙ h)
  mask-some i (l ∷ ls) h =
      ⊎_elim (λ e. (l, here refl, e)) (λ e. let (x, j, t) = mask-some i ls e in (x, there j, t))
      (or_cases (bit_is i (one l)) (bit_is i (mask ls)) (sym (bit-or i (one l) (mask ls)) ∙ ap (bit i) (sym (some l ls)) ∙ h))

  mask_at : (i : ℕ) (ls : List Literal) (l : Literal) → l ∈ ls → bit i (one l) ≡ 1 → bit i (mask ls) ≡ 1
  mask_at i [] l j h = absurd (no-∈ j)
  mask_at i (x ∷ ls) l j h =
      ap (bit i) (some x ls) ∙ bit-or i (one x) (mask ls)
      ∙ ⊎_elim (λ e. or_left (bit_is i (mask ls)) (ap (λ y. bit i (one y)) (sym e) ∙ h))
      (λ k. or_right (bit_is i (one x)) (mask_at i ls l k h)) (cons-∈ j)

-- i lies in a field, by its distance from the lowest bit
in_field : (i lo width : ℕ) → (i < lo) ⊎ ((j : ℕ) × (i ≡ lo + j) × ((j < width) ⊎ (width ≤ j)))
in_field i lo width = elim (dec_lt i lo) [ yes l ↦ inl l | no g ↦ inr (i - lo, omega arith, above (i - lo)) ]
  where
    above : (j : ℕ) → (j < width) ⊎ (width ≤ j)
    above j = elim (dec_lt j width) [ yes l ↦ inl l | no g ↦ inr (omega arith) ]

-- the bits of a field's mask are those of the field
in-mask : (i lo width : ℕ) → bit i ((2 ^ width - 1) * 2 ^ lo) ≡ 1 → (j : ℕ) × (i ≡ lo + j) × (j < width)
in-mask i lo width h =
    ⊎_elim (λ l. clash (sym (bit_below i lo (2 ^ width - 1) l) ∙ h))
    (λ (j, e, c). ⊎_elim (λ l. (j, e, l))
    (λ l. clash (sym (bit-over j width (2 ^ width - 1) (ones_lt width) l) ∙ sym (bit-above j lo (2 ^ width - 1)) ∙ ap (λ (k : ℕ). bit k ((2 ^ width - 1) * 2 ^ lo)) (sym e) ∙ h)) c)
    (in_field i lo width)

mask-own : (lo width j : ℕ) → j < width → bit (lo + j) ((2 ^ width - 1) * 2 ^ lo) ≡ 1
mask-own lo width j h = bit-above j lo (2 ^ width - 1) ∙ bit-ones j width h

-- a literal looks at a wire exactly where it asks for one of the two values there
asks-some : (i : ℕ) (l : Literal) → bit i (look_of l) ≡ 1 → (b : ℕ) × (b < 2) × T (asks i b l)
asks-some i (wire lo width v) h =
    let (j, e, l) = in-mask i lo width h in
    (bit j v, bit-lt j v, subst (λ (k : ℕ). T (asks k (bit j v) (wire lo width v))) (sym e) (asks-own lo width v j l))
asks-some i (wire_store lo width s) h = clash (sym (zero_bit i) ∙ h)
asks-some i (wire_past lo width) h = clash (sym (zero_bit i) ∙ h)
asks-some i (store s v) h = clash (sym (zero_bit i) ∙ h)

as-digit : {x : ℕ} → Bit x → cond (eqb x 1) 1 0 ≡ x
as-digit off = refl
as-digit on = refl

-- the value wanted of wire i is 1 exactly where the literal asks for 1 there
wants-one : (i : ℕ) (l : Literal) → Sized l → bit i (want_of l) ≡ cond (asks i 1 l) 1 0
wants-one i (wire lo width v) (fits, within) =
    ⊎_elim (λ l. bit_below i lo v l ∙ sym (rw (lt-leb lo i l)))
    (λ (j, e, c).
    let back : lo + j - lo ≡ j = omega arith in
    rw e (bit-above j lo v ∙ ⊎_elim
    (λ l. sym (rw (le-leb lo (lo + j) (omega arith), lt-ltb (lo + j) (lo + width) (omega arith), back) (as-digit (bit_is j v))))
    (λ l. bit-over j width v fits l ∙ sym (rw (le-leb lo (lo + j) (omega arith), le-ltb (lo + j) (lo + width) (omega arith)))) c))
    (in_field i lo width)
wants-one i (wire_store lo width s) z = zero_bit i
wants-one i (wire_past lo width) z = zero_bit i
wants-one i (store s v) z = zero_bit i

or_digits : (a b : Bool) → bit_or (cond a 1 0) (cond b 1 0) ≡ cond (a || b) 1 0
or_digits true true = refl
or_digits true false = refl
or_digits false true = refl
or_digits false false = refl

want-bit : (i : ℕ) (ls : List Literal) → AllSized ls → bit i (want ls) ≡ cond (any (asks i 1) ls) 1 0
unfolding want
want-bit i [] sized = zero_bit i
want-bit i (l ∷ ls) sized =
    bit-or i (want_of l) (want ls) ∙ ap₂ bit_or (wants-one i l (sized l (here refl))) (want-bit i ls (λ x j. sized x (there j)))
    ∙ or_digits (asks i 1 l) (any (asks i 1) ls)

look-some : (i : ℕ) (ls : List Literal) → bit i (look ls) ≡ 1 → (b : ℕ) × (b < 2) × (l : Literal) × (l ∈ ls) × T (asks i b l)
unfolding look
look-some i ls h =
    let (l, j, e) = mask-some look_of look refl (λ l ls. refl) i ls h in
    let (b, d, t) = asks-some i l e in
    (b, d, l, j, t)

look_at : (i : ℕ) (ls : List Literal) (l : Literal) → l ∈ ls → bit i (look_of l) ≡ 1 → bit i (look ls) ≡ 1
unfolding look
look_at = mask_at look_of look refl (λ l ls. refl)

-- ---- literals that agree

module _ (ls : List Literal) (sized : AllSized ls) (agreed : T (agree ls)) where
  -- what one of them asks for is what is wanted
  asked-wanted : (i b : ℕ) (l : Literal) → i < 64 → b < 2 → l ∈ ls → T (asks i b l) → bit i (want ls) ≡ b
  unfolding agree
  asked-wanted i b l h d j t =
      want-bit i ls sized
      ∙ digit-is i b ls d (any-from (asks i b) j t) (all-at (λ k. not (any (asks k 0) ls && any (asks k 1) ls)) (in-below 64 i h) agreed)

  -- A word that meets them all passes their masks.
  pub meets-passes : (w : ℕ) → T (all (wire_holds w) ls) → T (passes (look ls) (want ls) w)
  meets-passes w h =
      passes-if (look ls) (want ls) w (λ i l e.
      let (b, d, x, j, t) = look-some i ls e in
      asked-bit w i b x (all-at (wire_holds w) j h) t ∙ sym (asked-wanted i b x l d j t))

  -- And a word that passes meets them all.
  pub passes-meets : (w : ℕ) → T (passes (look ls) (want ls) w) → T (all (wire_holds w) ls)
  passes-meets w h = all_from (wire_holds w) ls (λ l j. one l j (sized l j))
    where
      one : (l : Literal) → l ∈ ls → Sized l → T (wire_holds w l)
      one (wire lo width v) j (p, q) =
          subst (λ (z : ℕ). T (eqb (field lo width w) z))
          (same_bits width (field lo width w) v (mod-lt (w / 2 ^ lo) (pow_pos width)) p (λ k l.
          bit-field lo width w k l
          ∙ passes_then (look ls) (want ls) w h (lo + k) (omega arith) (look_at (lo + k) ls (wire lo width v) j (mask-own lo width k l))
          ∙ asked-wanted (lo + k) (bit k v) (wire lo width v) (omega arith) (bit-lt k v) j (asks-own lo width v k l)))
          (eqb_refl (field lo width w))
      one (wire_store lo width s) j z = tt
      one (wire_past lo width) j z = tt
      one (store s v) j z = tt

-- ---- the word before

-- the literal asks nothing of the word before, or its field is the same in both
abbrev pub past_holds : (before word : ℕ) → Literal → Bool
past_holds b w (wire lo width v) = true
past_holds b w (wire_store lo width s) = true
past_holds b w (wire_past lo width) = eqb (field lo width w) (field lo width b)
past_holds b w (store s v) = true

-- A word that passes the mask of the wires held, with the word before as what is wanted, has the same fields; and the other way round.
pub held-exactly : (ls : List Literal) → AllSized ls → (b w : ℕ) → passes (held ls) b w ≡ all (past_holds b w) ls
unfolding held
held-exactly ls sized b w =
    same_truth (passes (held ls) b w) (all (past_holds b w) ls)
    (λ t. all_from (past_holds b w) ls (λ l j. kept t l j (sized l j)))
    (λ t. passes-if (held ls) b w (λ i h e. let (l, j, f) = mask-some held_of held refl (λ l ls. refl) i ls e in same_bit i l f (all-at (past_holds b w) j t)))
  where
    kept : T (passes (held ls) b w) → (l : Literal) → l ∈ ls → Sized l → T (past_holds b w l)
    kept t (wire lo width v) j z = tt
    kept t (wire_store lo width s) j z = tt
    kept t (wire_past lo width) j z =
        subst (λ (x : ℕ). T (eqb (field lo width w) x))
        (same_bits width (field lo width w) (field lo width b) (mod-lt (w / 2 ^ lo) (pow_pos width)) (mod-lt (b / 2 ^ lo) (pow_pos width)) (λ k l.
        bit-field lo width w k l
        ∙ passes_then (held ls) b w t (lo + k) (omega arith) (mask_at held_of held refl (λ l ls. refl) (lo + k) ls (wire_past lo width) j (mask-own lo width k l))
        ∙ sym (bit-field lo width b k l)))
        (eqb_refl (field lo width w))
    kept t (store s v) j z = tt

    same_bit : (i : ℕ) (l : Literal) → bit i (held_of l) ≡ 1 → T (past_holds b w l) → bit i w ≡ bit i b
    same_bit i (wire lo width v) f t = clash (sym (zero_bit i) ∙ f)
    same_bit i (wire_store lo width s) f t = clash (sym (zero_bit i) ∙ f)
    same_bit i (wire_past lo width) f t =
        let (k, e, l) = in-mask i lo width f in
        ap (λ (x : ℕ). bit x w) e ∙ sym (bit-field lo width w k l) ∙ ap (bit k) (eqb→eq (field lo width w) (field lo width b) t) ∙ bit-field lo width b k l
        ∙ ap (λ (x : ℕ). bit x b) (sym e)
    same_bit i (store s v) f t = clash (sym (zero_bit i) ∙ f)

-- ---- two lists of literals

and-on : {x y : ℕ} → Bit x → Bit y → bit_and x y ≡ 1 → (x ≡ 1) × (y ≡ 1)
and-on off off e = clash e
and-on off on e = clash e
and-on on off e = clash e
and-on on on e = (refl, refl)

asks-look : (i b : ℕ) (l : Literal) → T (asks i b l) → bit i (look_of l) ≡ 1
asks-look i b (wire lo width v) t =
    let (c, e) = and_T (leb lo i && ltb i (lo + width)) (eqb (bit (i - lo) v) b) t in
    let (p, q) = and_T (leb lo i) (ltb i (lo + width)) c in
    let le : lo ≤ i = leb→le lo i p in
    let lt : i < lo + width = ltb→lt i (lo + width) q in
    let back : i ≡ lo + (i - lo) = omega arith in
    ap (λ (k : ℕ). bit k ((2 ^ width - 1) * 2 ^ lo)) back ∙ mask-own lo width (i - lo) (omega arith)
asks-look i b (wire_store lo width s) t = absurd t
asks-look i b (wire_past lo width) t = absurd t
asks-look i b (store s v) t = absurd t

-- nothing is wanted where nobody looks
want-looks : (i : ℕ) (ls : List Literal) → AllSized ls → bit i (want ls) ≡ 1 → bit i (look ls) ≡ 1
want-looks i ls sized h = by (any (asks i 1) ls) refl (sym (want-bit i ls sized) ∙ h)
  where
    by : (t : Bool) → any (asks i 1) ls ≡ t → ◌≡◌ {A = ℕ} (cond t 1 0) 1 → bit i (look ls) ≡ 1
    by true e f = let (l, j, a) = any-to (asks i 1) ls (subst T (sym e) tt) in look_at i ls l j (asks-look i 1 l a)
    by false e f = clash f

-- where the other wants nothing new, one's own value stays
own_value : {x y : ℕ} → Bit x → Bit y → (y ≡ 1 → x ≡ y) → bit_or x y ≡ x
own_value off off h = refl
own_value off on h = clash (h refl)
own_value on off h = refl
own_value on on h = refl

module _ (xs ys : List Literal) (sx : AllSized xs) (sy : AllSized ys) (ax : T (agree xs)) (ay : T (agree ys)) where
  common : ℕ
  common = bit_and (look xs) (look ys)

  -- Literals that one word meets together have compatible masks.
  pub agree-compatible : T (agree (xs ++ ys)) → T (compatible (look xs) (want xs) (look ys) (want ys))
  unfolding common
  agree-compatible t =
      let (w, b, h) = met-if (xs ++ ys) (λ l i. ⊎_elim (sx l) (sy l) (append-∈ xs i)) t in
      let px = meets-passes xs sx ax w (all_from (wire_holds w) xs (λ l i. all-at (wire_holds w) (∈-left ys i) h)) in
      let py = meets-passes ys sy ay w (all_from (wire_holds w) ys (λ l i. all-at (wire_holds w) (∈-right xs i) h)) in
      passes-if common (want ys) (want xs) (λ i l e.
      let (p, q) = and-on (bit_is i (look xs)) (bit_is i (look ys)) (sym (bit-and i (look xs) (look ys)) ∙ e) in
      sym (passes_then (look xs) (want xs) w px i l p) ∙ passes_then (look ys) (want ys) w py i l q)

  -- And those with compatible masks are met together: by the word that has all that is wanted.
  both : ℕ
  both = bit_or (want xs) (want ys)

  same-wanted : T (compatible (look xs) (want xs) (look ys) (want ys)) → (i : ℕ) → i < 64 → bit i (look xs) ≡ 1 → bit i (look ys) ≡ 1 → bit i (want xs) ≡ bit i (want ys)
  unfolding common
  same-wanted t i l p q =
      passes_then common (want ys) (want xs) t i l (bit-and i (look xs) (look ys) ∙ ap₂ bit_and p q)

  passes-left : T (compatible (look xs) (want xs) (look ys) (want ys)) → T (passes (look xs) (want xs) both)
  unfolding both
  passes-left t =
      passes-if (look xs) (want xs) both (λ i l e.
      bit-or i (want xs) (want ys)
      ∙ own_value (bit_is i (want xs)) (bit_is i (want ys)) (λ f. same-wanted t i l e (want-looks i ys sy f)))

  passes-right : T (compatible (look xs) (want xs) (look ys) (want ys)) → T (passes (look ys) (want ys) both)
  unfolding both
  passes-right t =
      passes-if (look ys) (want ys) both (λ i l e.
      bit-or i (want xs) (want ys) ∙ or_comm (bit i (want xs)) (bit i (want ys))
      ∙ own_value (bit_is i (want ys)) (bit_is i (want xs)) (λ f. sym (same-wanted t i l (want-looks i xs sx f) e)))

  pub compatible-agree : T (compatible (look xs) (want xs) (look ys) (want ys)) → T (agree (xs ++ ys))
  compatible-agree t =
      agree-if both (xs ++ ys)
      (all_append (wire_holds both) xs ys (passes-meets xs sx ax both (passes-left t)) (passes-meets ys sy ay both (passes-right t)))

-- ---- the masks of lists that are joined

or-three : {x y z : ℕ} → Bit x → Bit y → Bit z → bit_or (bit_or x y) z ≡ bit_or x (bit_or y z)
or-three off off off = refl
or-three off off on = refl
or-three off on off = refl
or-three off on on = refl
or-three on off off = refl
or-three on off on = refl
or-three on on off = refl
or-three on on on = refl

or_assoc : (a b c : ℕ) → a < 2 ^ 64 → b < 2 ^ 64 → c < 2 ^ 64 → bit_or (bit_or a b) c ≡ bit_or a (bit_or b c)
or_assoc a b c p q r =
    same_bits 64 (bit_or (bit_or a b) c) (bit_or a (bit_or b c)) (or_lt 64 (bit_or a b) c (or_lt 64 a b p q) r) (or_lt 64 a (bit_or b c) p (or_lt 64 b c q r))
    (λ i l. bit-or i (bit_or a b) c ∙ ap (λ (x : ℕ). bit_or x (bit i c)) (bit-or i a b)
    ∙ or-three (bit_is i a) (bit_is i b) (bit_is i c)
    ∙ ap (λ (x : ℕ). bit_or (bit i a) x) (sym (bit-or i b c)) ∙ sym (bit-or i a (bit_or b c)))

shifted-small : (lo width v : ℕ) → v < 2 ^ width → lo + width ≤ 64 → v * 2 ^ lo < 2 ^ 64
shifted-small lo width v p q = lt_of_lt_of_le (shl_lt width lo p) (pow_mono (subst (λ (k : ℕ). k ≤ 64) (add_comm lo width) q))

look-of-small : (l : Literal) → Sized l → look_of l < 2 ^ 64
look-of-small (wire lo width v) (p, q) = shifted-small lo width (2 ^ width - 1) (ones_lt width) q
look-of-small (wire_store lo width s) z = pow_pos 64
look-of-small (wire_past lo width) z = pow_pos 64
look-of-small (store s v) z = pow_pos 64

want-of-small : (l : Literal) → Sized l → want_of l < 2 ^ 64
want-of-small (wire lo width v) (p, q) = shifted-small lo width v p q
want-of-small (wire_store lo width s) z = pow_pos 64
want-of-small (wire_past lo width) z = pow_pos 64
want-of-small (store s v) z = pow_pos 64

held-of-small : (l : Literal) → Sized l → held_of l < 2 ^ 64
held-of-small (wire lo width v) z = pow_pos 64
held-of-small (wire_store lo width s) z = pow_pos 64
held-of-small (wire_past lo width) q = shifted-small lo width (2 ^ width - 1) (ones_lt width) q
held-of-small (store s v) z = pow_pos 64

-- one mask of each literal, all joined
module _ (one : Literal → ℕ) (small : (l : Literal) → Sized l → one l < 2 ^ 64) (mask : List Literal → ℕ) (none : mask [] ≡ 0)
    (some : (l : Literal) (ls : List Literal) → mask (l ∷ ls) ≡ bit_or (one l) (mask ls)) where
  mask-small : (ls : List Literal) → AllSized ls → mask ls < 2 ^ 64
  mask-small [] sized = rw none (pow_pos 64)
  mask-small (l ∷ ls) sized = rw some (or_lt 64 (one l) (mask ls) (small l (sized l (here refl))) (mask-small ls (λ x j. sized x (there j))))

  mask_append : (xs ys : List Literal) → AllSized xs → AllSized ys → mask (xs ++ ys) ≡ bit_or (mask xs) (mask ys)
  mask_append [] ys sx sy = sym (ap (λ (n : ℕ). bit_or n (mask ys)) none ∙ or_zero_l (mask ys))
  mask_append (x ∷ xs) ys sx sy =
      let rest : AllSized xs = λ l j. sx l (there j) in
      some x (xs ++ ys) ∙ ap (bit_or (one x)) (mask_append xs ys rest sy)
      ∙ sym (or_assoc (one x) (mask xs) (mask ys) (small x (sx x (here refl))) (mask-small xs rest) (mask-small ys sy))
      ∙ ap (λ (n : ℕ). bit_or n (mask ys)) (sym (some x xs))

pub look-append : (xs ys : List Literal) → AllSized xs → AllSized ys → look (xs ++ ys) ≡ bit_or (look xs) (look ys)
unfolding look
look-append = mask_append look_of look-of-small look refl (λ l ls. refl)

pub want-append : (xs ys : List Literal) → AllSized xs → AllSized ys → want (xs ++ ys) ≡ bit_or (want xs) (want ys)
unfolding want
want-append = mask_append want_of want-of-small want refl (λ l ls. refl)

pub held-append : (xs ys : List Literal) → AllSized xs → AllSized ys → held (xs ++ ys) ≡ bit_or (held xs) (held ys)
unfolding held
held-append = mask_append held_of held-of-small held refl (λ l ls. refl)

pub sized-append : (xs ys : List Literal) → AllSized xs → AllSized ys → AllSized (xs ++ ys)
sized-append xs ys sx sy l i = ⊎_elim (sx l) (sy l) (append-∈ xs i)

-- Lists agree together where each agrees and their masks are compatible.
pub agree-append : (xs ys : List Literal) → AllSized xs → AllSized ys
    → agree (xs ++ ys) ≡ ((agree xs && agree ys) && compatible (look xs) (want xs) (look ys) (want ys))
agree-append xs ys sx sy =
    same_truth (agree (xs ++ ys)) ((agree xs && agree ys) && compatible (look xs) (want xs) (look ys) (want ys))
    (λ t.
    let (w, b, h) = met-if (xs ++ ys) (sized-append xs ys sx sy) t in
    let ax = agree-if w xs (all_from (wire_holds w) xs (λ l i. all-at (wire_holds w) (∈-left ys i) h)) in
    let ay = agree-if w ys (all_from (wire_holds w) ys (λ l i. all-at (wire_holds w) (∈-right xs i) h)) in
    T_and (agree xs && agree ys) _ (T_and (agree xs) (agree ys) ax ay) (agree-compatible xs ys sx sy ax ay t))
    (λ t.
    let (a, c) = and_T (agree xs && agree ys) _ t in
    let (ax, ay) = and_T (agree xs) (agree ys) a in
    compatible-agree xs ys sx sy ax ay c)

-- One literal agrees with itself.
pub agree-one : (lo width v : ℕ) → v < 2 ^ width → agree (wire lo width v ∷ []) ≡ true
agree-one lo width v h =
    let same : field lo width (v * 2 ^ lo) ≡ v = ap (λ (x : ℕ). x % 2 ^ width) (shl-shr v lo) ∙ mod-eq_of_lt h in
    same_truth (agree (wire lo width v ∷ [])) true (λ t. tt) (λ t.
    agree-if (v * 2 ^ lo) (wire lo width v ∷ []) (T_and (eqb (field lo width (v * 2 ^ lo)) v) true (subst (λ (x : ℕ). T (eqb x v)) (sym same) (eqb_refl v)) tt))
