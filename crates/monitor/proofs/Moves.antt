-- What a good tick leaves: its marks are the positions that the meaning keeps, and its store values those that the letters met write. Assumes nothing.
use mathlib.Core.Path.{◌≡◌, refl, sym, ap, ap₂, ◌∙◌, subst}
use mathlib.Core.Bool.{Bool, true, false, not, cond}
use mathlib.Core.List.{List, [], ◌∷◌, ◌++◌, append_assoc}
use mathlib.Core.Logic.{⊎_elim}
use Prim.Native.Nat.{ℕ, suc, ◌+◌, ◌<◌, ◌≤◌}
use native.Mathlib.Omega.{arith}
use lib.Dec.{eqb}
use lib.ListN.{length, get_or}
use Rattle.meaning.specs.Lists.{◌∈◌, each, carry, only, member, total}
use Rattle.meaning.specs.Expression.{Letter, Exp, letter, seq, alt, star, pipe, letters, size, Ordered}
use Rattle.meaning.specs.Fit.{Tick, write, write_met}
use Rattle.meaning.specs.Positions.{Positions, kept, kept_each, write_each}
use Rattle.meaning.proofs.ListLaws.{here, there, clash, no-∈, append-∈, ∈-left, ∈-right, map-∈, ∈-map, ∈-member, member-∈, same_truth}
use Rattle.meaning.proofs.Shifted.{shift_all, shift_positions}
use Rattle.rules.proofs.Placing.{letters-long}
use Rattle.monitor.specs.Letters.{Given, write_letter}
use Rattle.monitor.specs.Ticks.{each_marked, write_if, write_marked}
use Rattle.monitor.proofs.LetterTests.{writes-length}
use Rattle.monitor.proofs.Marked.{each-split}
use Rattle.monitor.proofs.Going.{marked_from, MarksAre, spread}

-- ---- letters in reading order

-- letters numbered one after the other, from j on
abbrev pub Counted : ℕ → List Letter → Type 0
Counted j [] = Unit {0}
Counted j (x ∷ xs) = (x.number ≡ j) × Counted (suc j) xs

counted-append : (j : ℕ) (xs ys : List Letter) → Counted j xs → Counted (j + length xs) ys → Counted j (xs ++ ys)
counted-append j [] ys a b = let e : j + 0 ≡ j = omega arith in subst (λ (n : ℕ). Counted n ys) e b
counted-append j (x ∷ xs) ys a b =
    let e : j + suc (length xs) ≡ suc j + length xs = omega arith in
    (a.0, counted-append (suc j) xs ys a.1 (subst (λ (n : ℕ). Counted n ys) e b))

counted-two : (j : ℕ) (e f : Exp) → Counted j (letters e) → Counted (j + size e) (letters f) → Counted j (letters e ++ letters f)
counted-two j e f a b = counted-append j (letters e) (letters f) a (subst (λ (n : ℕ). Counted (j + n) (letters f)) (sym (letters-long e)) b)

pub ordered-counted : (j : ℕ) (e : Exp) → Ordered j e → Counted j (letters e)
unfolding letters
ordered-counted j (letter l) o = (o, tt)
ordered-counted j (seq e f) o = counted-two j e f (ordered-counted j e o.0) (ordered-counted (j + size e) f o.1)
ordered-counted j (alt e f) o = counted-two j e f (ordered-counted j e o.0) (ordered-counted (j + size e) f o.1)
ordered-counted j (star e) o = ordered-counted j e o
ordered-counted j (pipe e f) o = counted-two j e f (ordered-counted j e o.0) (ordered-counted (j + size e) f o.1)

-- ---- one monitor's marks

-- of n letters from l on, those are marked whose number from l is in ns
abbrev pub MarkedAs : (marks : List ℕ) → (l n : ℕ) → List ℕ → Type 0
MarkedAs K l n ns = (i : ℕ) → i < n → eqb (get_or K (l + i) 0) 0 ≡ not (member i ns)

module _ (K : List ℕ) (l : ℕ) (ns : List ℕ) where
  pub marks-kept : (j : ℕ) (xs : List Letter) → Counted j xs → MarkedAs K l (j + length xs) ns
      → marked_from K (length xs) (l + j) ≡ shift_all l (each xs (λ x. only (member x.number ns) (x.number ∷ [])))
  unfolding marked_from
  marks-kept j [] c h = refl
  marks-kept j (x ∷ xs) c h =
      let e : suc (l + j) ≡ l + suc j = omega arith in
      let s : suc j + length xs ≡ j + suc (length xs) = omega arith in
      let r = ap (marked_from K (length xs)) e ∙ marks-kept (suc j) xs c.1 (subst (λ (n : ℕ). MarkedAs K l n ns) (sym s) h) in
      rw c.0 (by (eqb (get_or K (l + j) 0) 0) (member j ns) (h j (omega arith)) (marked_from K (length xs) (suc (l + j))) _ r)
    where
      by : (b a : Bool) → b ≡ not a → (ks : List ℕ) (zs : List ℕ) → ks ≡ shift_all l zs → cond b ks ((l + j) ∷ ks) ≡ shift_all l (only a (j ∷ []) ++ zs)
      by true false p ks zs q = q
      by false true p ks zs q = ap (λ (z : List ℕ). (l + j) ∷ z) q
      by true true p ks zs q = clash (cc p)
      by false false p ks zs q = clash (cc p)

-- ---- one monitor's writes

-- the writes of letters that were met, as `write_met` has them
abbrev pub writes_of : Tick → (ns : List ℕ) → List ℕ → Letter → List ℕ
writes_of t ns σ x = cond (member x.number ns) (carry (write t) σ x.writes) σ

-- pad: how store values stand in a watch
module _ (g : Given) (t : Tick) (K : List ℕ) (l : ℕ) (ns : List ℕ) (pad : List ℕ → List ℕ) (stores : ℕ) where
  -- a letter's numbers write what the letter does
  abbrev pub WritesAs : Letter → Type 0
  WritesAs x = (σ : List ℕ) → length σ ≡ stores → write_letter g (l + x.number) (pad σ) ≡ pad (carry (write t) σ x.writes)

  one_written : (x : Letter) (b : Bool) → b ≡ not (member x.number ns) → WritesAs x → (σ : List ℕ) → length σ ≡ stores
      → (cond b (pad σ) (write_letter g (l + x.number) (pad σ)) ≡ pad (writes_of t ns σ x)) × (length (writes_of t ns σ x) ≡ stores)
  one_written x b p h σ e = by b (member x.number ns) p
    where
      by : (b a : Bool) → b ≡ not a
          → (cond b (pad σ) (write_letter g (l + x.number) (pad σ)) ≡ pad (cond a (carry (write t) σ x.writes) σ)) × (length (cond a (carry (write t) σ x.writes) σ) ≡ stores)
      by true false p = (refl, e)
      by false true p = (h σ e, writes-length t x.writes σ ∙ e)
      by true true p = clash (cc p)
      by false false p = clash (cc p)

  pub marks-written : (j : ℕ) (xs : List Letter) → Counted j xs → MarkedAs K l (j + length xs) ns → ((x : Letter) → x ∈ xs → WritesAs x) → (σ : List ℕ) → length σ ≡ stores
      → (write_marked g K (length xs) (l + j) (pad σ) ≡ pad (carry (writes_of t ns) σ xs)) × (length (carry (writes_of t ns) σ xs) ≡ stores)
  unfolding each_marked
  marks-written j [] c h w σ e = (refl, e)
  marks-written j (x ∷ xs) c h w σ e =
      let s : suc j + length xs ≡ j + suc (length xs) = omega arith in
      let p : l + j ≡ l + x.number = ap (λ (n : ℕ). l + n) (sym c.0) in
      let q : suc (l + j) ≡ l + suc j = omega arith in
      let m = one_written x (eqb (get_or K (l + x.number) 0) 0) (h x.number (omega (arith, c.0))) (w x (here refl)) σ e in
      let r = marks-written (suc j) xs c.1 (subst (λ (n : ℕ). MarkedAs K l n ns) (sym s) h) (λ y i. w y (there i)) (writes_of t ns σ x) m.1 in
      (ap₂ (λ (n : ℕ) (z : List ℕ). write_marked g K (length xs) n z) q (ap (λ (n : ℕ). write_if g K n (pad σ)) p ∙ m.0) ∙ r.0, r.1)

-- ---- all monitors

-- each monitor's letters met are its own
unfoldable pub AllInside : List Exp → List (List ℕ) → Type 0
AllInside [] [] = Unit {0}
AllInside [] (ns ∷ nss) = ⊥
AllInside (m ∷ ms) [] = ⊥
AllInside (m ∷ ms) (ns ∷ nss) = ((k : ℕ) → k ∈ ns → k < size m) × AllInside ms nss

-- each monitor's letters are marked that were met
unfoldable pub AllMarkedAs : (marks : List ℕ) → (l : ℕ) → List Exp → List (List ℕ) → Type 0
AllMarkedAs K l [] [] = Unit {0}
AllMarkedAs K l [] (ns ∷ nss) = ⊥
AllMarkedAs K l (m ∷ ms) [] = ⊥
AllMarkedAs K l (m ∷ ms) (ns ∷ nss) = MarkedAs K l (size m) ns × AllMarkedAs K (l + size m) ms nss

spread-above : (l : ℕ) (ms : List Exp) (nss : List (List ℕ)) (k : ℕ) → k ∈ spread l ms nss → l ≤ k
unfolding spread
spread-above l [] nss k i = absurd (no-∈ i)
spread-above l (m ∷ ms) [] k i = absurd (no-∈ i)
spread-above l (m ∷ ms) (ns ∷ nss) k i = ⊎_elim
    (λ j. let (d, u, e) = map-∈ (λ n. l + n) ns j in omega (arith, e))
    (λ j. let h = spread-above (l + size m) ms nss k j in omega (arith, h))
    (append-∈ (shift_all l ns) i)

shift_in : (l n : ℕ) (ns : List ℕ) → n ∈ ns → l + n ∈ shift_all l ns
shift_in l n ns i = ∈-map (λ k. l + k) i

pub in_shift : (l n : ℕ) (ns : List ℕ) → l + n ∈ shift_all l ns → n ∈ ns
in_shift l n ns i = let (d, u, e) = map-∈ (λ k. l + k) ns i in subst (λ (z : ℕ). z ∈ ns) (omega (arith, e)) u

-- a letter of the monitor in the middle
member-here : (pre ns rest : List ℕ) (l n i : ℕ) → ((k : ℕ) → k ∈ pre → k < l) → ((k : ℕ) → k ∈ rest → l + n ≤ k) → i < n
    → member (l + i) (pre ++ (shift_all l ns ++ rest)) ≡ member i ns
member-here pre ns rest l n i below above h =
    same_truth (member (l + i) (pre ++ (shift_all l ns ++ rest))) (member i ns) (λ p. ∈-member i ns (inner (member-∈ (l + i) _ p)))
    (λ p. ∈-member (l + i) _ (∈-right pre (∈-left rest (shift_in l i ns (member-∈ i ns p)))))
  where
    late : l + i ∈ rest → i ∈ ns
    late k = let b = above (l + i) k in absurd (omega (arith, b, h))

    early : l + i ∈ pre → i ∈ ns
    early k = let b = below (l + i) k in absurd (omega (arith, b))

    inner : l + i ∈ pre ++ (shift_all l ns ++ rest) → i ∈ ns
    inner p = ⊎_elim early (λ j. ⊎_elim (λ k. in_shift l i ns k) late (append-∈ (shift_all l ns) j)) (append-∈ pre p)

-- what is said of a monitor's letters by its size is said by their list
whole : (K : List ℕ) (l : ℕ) (m : Exp) (ns : List ℕ) → MarkedAs K l (size m) ns → MarkedAs K l (0 + length (letters m)) ns
whole K l m ns a i h = let e = letters-long m in a i (omega (arith, h, e))

module _ (K : List ℕ) (n : ℕ) where
  pub all-marked : (pre : List ℕ) (l : ℕ) (ms : List Exp) (nss : List (List ℕ)) → AllInside ms nss → ((k : ℕ) → k ∈ pre → k < l)
      → ((k : ℕ) → k < n → eqb (get_or K k 0) 0 ≡ not (member k (pre ++ spread l ms nss))) → l + total size ms ≤ n → AllMarkedAs K l ms nss
  unfolding AllInside AllMarkedAs spread
  all-marked pre l [] [] a b c d = tt
  all-marked pre l [] (ns ∷ nss) a b c d = absurd a
  all-marked pre l (m ∷ ms) [] a b c d = absurd a
  all-marked pre l (m ∷ ms) (ns ∷ nss) a b c d = (
    λ i h. c (l + i) (omega (arith, d, h))
        ∙ ap not (member-here pre ns (spread (l + size m) ms nss) l (size m) i b (λ k j. spread-above (l + size m) ms nss k j) h),
    all-marked (pre ++ shift_all l ns) (l + size m) ms nss a.1
        (λ k j. ⊎_elim (λ u. let h = b k u in omega (arith, h)) (λ u. let (q, v, e) = map-∈ (λ z. l + z) ns u in let h = a.0 q v in omega (arith, e, h)) (append-∈ pre j))
        (λ k h. c k h ∙ ap (λ (z : List ℕ). not (member k z)) (sym (append_assoc pre (shift_all l ns) (spread (l + size m) ms nss))))
        (omega (arith, d)),
  )

-- the marks are the monitors' positions, from number i and letter l on
unfoldable pub MarksAll : (marks : List ℕ) → (i l : ℕ) → List Exp → List Positions → Type 0
MarksAll K i l [] [] = Unit {0}
MarksAll K i l [] (x ∷ xs) = ⊥
MarksAll K i l (m ∷ ms) [] = ⊥
MarksAll K i l (m ∷ ms) (x ∷ xs) = MarksAre K i (size m) l (shift_positions l x) × MarksAll K (suc i) (l + size m) ms xs

pub marks_all : (K : List ℕ) (i l : ℕ) (ms : List Exp) (nss : List (List ℕ)) → ((m : Exp) → m ∈ ms → Ordered 0 m) → ((k : ℕ) → i ≤ k → k < i + length ms → get_or K (256 + k) 0 ≡ 0)
    → AllMarkedAs K l ms nss → MarksAll K i l ms (kept_each ms nss)
unfolding AllMarkedAs MarksAll kept_each kept
marks_all K i l [] [] o z a = tt
marks_all K i l [] (ns ∷ nss) o z a = absurd a
marks_all K i l (m ∷ ms) [] o z a = absurd a
marks_all K i l (m ∷ ms) (ns ∷ nss) o z a = (
  (
    ap (λ (v : ℕ). eqb v 0) (z i (omega arith) (omega arith)),
    let e : l + 0 ≡ l = omega arith in
        ap₂ (marked_from K) (sym (letters-long m)) (sym e)
        ∙ marks-kept K l ns 0 (letters m) (ordered-counted 0 m (o m (here refl))) (whole K l m ns a.0),
  ),
  marks_all K (suc i) (l + size m) ms nss (λ x j. o x (there j)) (λ k u v. z k (omega arith) (omega (arith, v))) a.1,
)

module _ (g : Given) (t : Tick) (K : List ℕ) (pad : List ℕ → List ℕ) (stores : ℕ) where
  -- every letter's numbers write what the letter does
  unfoldable pub AllWriteAs : (l : ℕ) → List Exp → Type 0
  AllWriteAs l [] = Unit {0}
  AllWriteAs l (m ∷ ms) = ((x : Letter) → x ∈ letters m → WritesAs g t K l [] pad stores x) × AllWriteAs (l + size m) ms

  pub writes-all : (l : ℕ) (ms : List Exp) (nss : List (List ℕ)) → ((m : Exp) → m ∈ ms → Ordered 0 m) → AllMarkedAs K l ms nss → AllWriteAs l ms
      → (σ : List ℕ) → length σ ≡ stores
      → (write_marked g K (total size ms) l (pad σ) ≡ pad (write_each t ms nss σ)) × (length (write_each t ms nss σ) ≡ stores)
  unfolding AllMarkedAs AllWriteAs write_each write_met each_marked
  writes-all l [] [] o a w σ e = (refl, e)
  writes-all l [] (ns ∷ nss) o a w σ e = absurd a
  writes-all l (m ∷ ms) [] o a w σ e = absurd a
  writes-all l (m ∷ ms) (ns ∷ nss) o a w σ e =
      let z : l + 0 ≡ l = omega arith in
      let h = marks-written g t K l ns pad stores 0 (letters m) (ordered-counted 0 m (o m (here refl))) (whole K l m ns a.0) w.0 σ e in
      let r = writes-all (l + size m) ms nss (λ x j. o x (there j)) a.1 w.1 (carry (writes_of t ns) σ (letters m)) h.1 in (
        each-split K (write_letter g) (size m) (total size ms) l (pad σ)
            ∙ ap (write_marked g K (total size ms) (l + size m)) (ap₂ (λ (p q : ℕ). write_marked g K p q (pad σ)) (sym (letters-long m)) (sym z) ∙ h.0)
            ∙ r.0,
        r.1,
      )
