-- The steps of page.rt: digits and bytes stored behind one another. Assumes nothing.
use mathlib.Core.Path.{◌≡◌, refl, sym, ap, ap₂, ◌∙◌, subst}
use mathlib.Core.Bool.{Bool, true, false, cond}
use mathlib.Core.List.{List, [], ◌∷◌, ◌++◌, append_assoc}
use Prim.Native.Nat.{ℕ, zero, suc, ◌+◌, ◌-◌, ◌*◌, ◌/◌, ◌%◌, ◌^◌, ◌≤◌, ◌<◌}
use native.Mathlib.Omega.{arith}
use native.Mathlib.Nat.{div-eq_of_lt, div-lt_iff_lt-mul, mod-eq_of_lt, pow-suc, le_trans}
use lib.ListN.{length, get_or, set, take, drop, length-append, length-drop}
use lib.Seq.{sets, sets-eq, drop-drop, drop-cons, get_or-set_same, get_or-set_other, take_at}
use lib.Pow.{shr-shr}
use borrow.Author.Count.{below_more}
use borrow.Author.Tests.{lt-ltb, ltb-true, ltb-false}
use lib.Dec.{ltb}
use Rattle.std.specs.Fmt as std
use borrow.Rule.Slice.PartMut.{put_mid}
use Rattle.std.proofs.lemmas.Fmt.{decimal_by_steps}
use Rattle.meaning.specs.Sheet.{digits_in, decimal, hexadecimal}
use Rattle.rules.proofs.Overlay.{sets_behind}
use Rattle.sheet.specs.Digits.{hex_digit, pair_of}
use Rattle.sheet.specs.Pages.{Printed}
use Rattle.sheet.specs.declared.page.Page.{Page}

-- ---- bytes put behind one another, and printed

-- xs are put at a place, and the place behind is told
pub record Put (o : List ℕ) (a : ℕ) (xs o' : List ℕ) (a' : ℕ) : Type 0 where
  pub wrote : o' ≡ sets o a xs
  pub behind : a' ≡ a + length xs

pub put_two : {o o₁ o₂ xs ys : List ℕ} {a a₁ a₂ : ℕ} → Put o a xs o₁ a₁ → Put o₁ a₁ ys o₂ a₂ → Put o a (xs ++ ys) o₂ a₂
put_two {o} {o₁} {o₂} {xs} {ys} {a} {a₁} {a₂} p q =
    record {
      wrote = q.wrote ∙ ap (λ (l : List ℕ). sets l a₁ ys) p.wrote ∙ sets_behind o a a₁ xs ys (xs ++ ys) p.behind refl;
      behind = omega (arith, length-append xs ys);
    }

pub nothing : (p : Page) → Printed p p []
nothing p = record { same = refl; wrote = refl; behind = omega arith }

module _ {p q : Page} {xs : List ℕ} where
  pub printed_as : {ys : List ℕ} → xs ≡ ys → Printed p q xs → Printed p q ys
  printed_as e a =
      record { same = a.same; wrote = a.wrote ∙ ap (sets p.out.now p.at) e; behind = a.behind ∙ ap (λ (zs : List ℕ). p.at + length zs) e }

  pub both : {r : Page} {ys : List ℕ} → Printed p q xs → Printed q r ys → Printed p r (xs ++ ys)
  both {r} {ys} a b =
      let put : Put p.out.now p.at (xs ++ ys) r.out.now r.at = put_two (record { wrote = a.wrote; behind = a.behind }) (record { wrote = b.wrote; behind = b.behind }) in
      record { same = b.same ∙ a.same; wrote = put.wrote; behind = put.behind }

-- a text copied to where it fits
pub printed-whole : (out ys xs : List ℕ) (at : ℕ) → ys ≡ xs → at + length xs ≤ length out → put_mid at (at + length xs - at) out ys ≡ sets out at xs
printed-whole out ys xs at e h =
    let k : at + length xs - at ≡ length xs = omega arith in
    ap₂ (λ (n : ℕ) (zs : List ℕ). put_mid at n out zs) k e
    ∙ ap (λ (zs : List ℕ). take at out ++ (xs ++ zs)) (drop-drop (length xs) at out)
    ∙ sym (append_assoc (take at out) xs (drop (at + length xs) out)) ∙ sym (sets-eq xs out at h)

-- of the whole, to be printed from p on, the rest is still to be printed on q
pub record Remains (p q : Page) (whole rest : List ℕ) : Type 0 where
  pub same : q.out.ghost_name ≡ p.out.ghost_name
  pub puts : sets p.out.now p.at whole ≡ sets q.out.now q.at rest
  pub long : p.at + length whole ≡ q.at + length rest

pub remains-all : (p : Page) (whole rest : List ℕ) → whole ≡ rest → Remains p p whole rest
remains-all p whole rest e = record { same = refl; puts = ap (sets p.out.now p.at) e; long = ap (λ (xs : List ℕ). p.at + length xs) e }

module _ {p q : Page} {whole rest : List ℕ} (m : Remains p q whole rest) where
  pub remains-more : {r : Page} {line : List ℕ} → (more : List ℕ) → rest ≡ line ++ more → Printed q r line → Remains p r whole more
  remains-more {r} {line} more e a =
      record {
        same = a.same ∙ m.same;
        puts =
            m.puts ∙ ap (sets q.out.now q.at) e
            ∙ sym (ap (λ (x : List ℕ). sets x r.at more) a.wrote ∙ sets_behind q.out.now q.at r.at line more (line ++ more) a.behind refl);
        long = omega (arith, m.long, ap length e, length-append line more, a.behind);
      }

  pub remains-none : rest ≡ [] → Printed p q whole
  remains-none e = record { same = m.same; wrote = sym (m.puts ∙ ap (sets q.out.now q.at) e); behind = omega (arith, ap length e, m.long) }

-- a byte of a text
pub remains-byte : {p q r : Page} (xs : List ℕ) (i x : ℕ) → i < length xs → x ≡ get_or xs i 0 → Remains p q xs (drop i xs) → Printed q r (x ∷ []) → Remains p r xs (drop (i + 1) xs)
remains-byte xs i x h e m a =
    let t : suc i ≡ i + 1 = omega arith in
    remains-more m (drop (i + 1) xs) (drop-cons xs i 0 h ∙ ap₂ (λ (y : ℕ) (ys : List ℕ). y ∷ ys) (sym e) (ap (λ (k : ℕ). drop k xs) t)) a

-- ---- digits

pub digit_low : (d : ℕ) → d < 10 → 48 + d ≡ hex_digit d
digit_low d h = ap (λ (b : Bool). cond b (48 + d) (87 + d)) (sym (lt-ltb d 10 h))

digits-end : (k n : ℕ) (ds : List ℕ) → n / 10 ≡ 0 → digits_in 10 (suc k) n ds ≡ hex_digit (n % 10) ∷ ds
unfolding digits_in
digits-end k n ds e =
    subst
    (λ (q : ℕ). elim q as (λ _. List ℕ) [ zero ↦ hex_digit (n % 10) ∷ ds | suc m ↦ digits_in 10 k (n / 10) (hex_digit (n % 10) ∷ ds) ] ≡ hex_digit (n % 10) ∷ ds)
    (sym e) refl

digits_more : (k n m : ℕ) (ds : List ℕ) → n / 10 ≡ suc m → digits_in 10 (suc k) n ds ≡ digits_in 10 k (n / 10) (hex_digit (n % 10) ∷ ds)
unfolding digits_in
digits_more k n m ds e =
    subst
    (λ (q : ℕ).
    elim q as (λ _. List ℕ) [ zero ↦ hex_digit (n % 10) ∷ ds | suc m ↦ digits_in 10 k (n / 10) (hex_digit (n % 10) ∷ ds) ] ≡ digits_in 10 k (n / 10) (hex_digit (n % 10) ∷ ds))
    (sym e) refl

digits-none : (n : ℕ) (ds : List ℕ) → digits_in 10 zero n ds ≡ hex_digit (n % 10) ∷ ds
unfolding digits_in
digits-none n ds = refl

digits-short : (k d n : ℕ) (ds : List ℕ) → n < 10 ^ suc d → length (digits_in 10 k n ds) ≤ suc d + length ds
unfolding digits_in
digits-short zero d n ds h = omega arith
digits-short (suc k) d n ds h = by d h (n / 10) refl (digits-short k)
  where
    by : (d : ℕ) → n < 10 ^ suc d → (q : ℕ) → n / 10 ≡ q
        → ((e m : ℕ) (xs : List ℕ) → m < 10 ^ suc e → length (digits_in 10 k m xs) ≤ suc e + length xs) → length (digits_in 10 (suc k) n ds) ≤ suc d + length ds
    by d h zero e more = rw (e, digits_in) (omega arith)
    by zero h (suc m) e more = absurd (omega (arith, h, e))
    by (suc d) h (suc m) e more =
        let l : n / 10 < 10 ^ suc d = (div-lt_iff_lt-mul {k = 10} {x = n} {y = 10 ^ suc d} (omega arith)).1 (subst (λ (x : ℕ). n < x) (pow-suc 10 (suc d)) h) in
        rw (e, digits_in) (le_trans (more d (n / 10) (_ ∷ ds) l) (omega arith))

pub decimal-within : (d n : ℕ) → n < 10 ^ suc d → length (decimal n) ≤ suc d
unfolding decimal
decimal-within d n h = omega (arith, digits-short n d n [] h)

pub decimal-short : (n : ℕ) → n < 10 ^ 20 → length (decimal n) ≤ 20
decimal-short n h = decimal-within 19 n h

-- a count of at least the number does not run out
enough : (j k n : ℕ) (ds : List ℕ) → n ≤ j → n ≤ k → digits_in 10 j n ds ≡ digits_in 10 k n ds
enough zero zero n ds h g = refl
enough zero (suc k) n ds h g = digits-none n ds ∙ sym (digits-end k n ds (div-eq_of_lt {n = n} {m = 10} (omega arith)))
enough (suc j) zero n ds h g = digits-end j n ds (div-eq_of_lt {n = n} {m = 10} (omega arith)) ∙ sym (digits-none n ds)
enough (suc j) (suc k) n ds h g = by (n / 10) refl (λ l m. enough j k (n / 10) (hex_digit (n % 10) ∷ ds) l m)
  where
    by : (q : ℕ) → n / 10 ≡ q
        → (n / 10 ≤ j → n / 10 ≤ k → digits_in 10 j (n / 10) (hex_digit (n % 10) ∷ ds) ≡ digits_in 10 k (n / 10) (hex_digit (n % 10) ∷ ds))
        → digits_in 10 (suc j) n ds ≡ digits_in 10 (suc k) n ds
    by zero e r = digits-end j n ds e ∙ sym (digits-end k n ds e)
    by (suc m) e r = digits_more j n m ds e ∙ r (omega arith) (omega arith) ∙ sym (digits_more k n m ds e)

digits-turn : (n : ℕ) (ds : List ℕ) → 10 ≤ n → digits_in 10 n n ds ≡ digits_in 10 (n / 10) (n / 10) ((48 + n % 10) ∷ ds)
digits-turn zero ds h = absurd (omega arith)
digits-turn (suc k) ds h = by (suc k / 10) refl
  where
    by : (q : ℕ) → suc k / 10 ≡ q → digits_in 10 (suc k) (suc k) ds ≡ digits_in 10 (suc k / 10) (suc k / 10) ((48 + suc k % 10) ∷ ds)
    by zero e = absurd (omega arith)
    by (suc m) e =
        digits_more k (suc k) m ds e
        ∙ enough k (suc k / 10) (suc k / 10) (hex_digit (suc k % 10) ∷ ds) (omega arith) (omega arith)
        ∙ ap (λ (d : ℕ). digits_in 10 (suc k / 10) (suc k / 10) (d ∷ ds)) (sym (digit_low (suc k % 10) (omega arith)))

digits_last : (n : ℕ) (ds : List ℕ) → n < 10 → digits_in 10 n n ds ≡ (48 + n) ∷ ds
digits_last n ds h = by n refl ∙ ap (λ (d : ℕ). d ∷ ds) (ap hex_digit (mod-eq_of_lt h) ∙ sym (digit_low n h))
  where
    by : (k : ℕ) → k ≡ n → digits_in 10 n n ds ≡ hex_digit (n % 10) ∷ ds
    by zero e = ap (λ (m : ℕ). digits_in 10 m n ds) (sym e) ∙ digits-none n ds
    by (suc k) e = ap (λ (m : ℕ). digits_in 10 m n ds) (sym e) ∙ digits-end k n ds (div-eq_of_lt h)

-- digits in front of others
digits-behind : (k n : ℕ) (xs ds : List ℕ) → digits_in 10 k n (xs ++ ds) ≡ digits_in 10 k n xs ++ ds
digits-behind zero n xs ds = digits-none n (xs ++ ds) ∙ ap (λ (l : List ℕ). l ++ ds) (sym (digits-none n xs))
digits-behind (suc k) n xs ds = by (n / 10) refl (digits-behind k (n / 10) (hex_digit (n % 10) ∷ xs) ds)
  where
    by : (q : ℕ) → n / 10 ≡ q → digits_in 10 k (n / 10) (hex_digit (n % 10) ∷ (xs ++ ds)) ≡ digits_in 10 k (n / 10) (hex_digit (n % 10) ∷ xs) ++ ds
        → digits_in 10 (suc k) n (xs ++ ds) ≡ digits_in 10 (suc k) n xs ++ ds
    by zero e r = digits-end k n (xs ++ ds) e ∙ ap (λ (l : List ℕ). l ++ ds) (sym (digits-end k n xs e))
    by (suc m) e r = digits_more k n m (xs ++ ds) e ∙ r ∙ ap (λ (l : List ℕ). l ++ ds) (sym (digits_more k n m xs e))

-- the last digit, and what it is for the next number unless it is 9
pub record Last (n : ℕ) : Type 0 where
  pub front : List ℕ
  pub here : decimal n ≡ front ++ ((48 + n % 10) ∷ [])
  pub next : n % 10 < 9 → decimal (n + 1) ≡ front ++ ((49 + n % 10) ∷ [])

last-few : (n : ℕ) → n < 10 → Last n
unfolding decimal
last-few n h =
    record {
      front = [];
      here = digits_last n [] h ∙ (let e : 48 + n ≡ 48 + n % 10 = omega (arith, h) in ap (λ (d : ℕ). d ∷ []) e);
      next = λ l. digits_last (n + 1) [] (omega (arith, h, l)) ∙ (let e : 48 + (n + 1) ≡ 49 + n % 10 = omega (arith, h) in ap (λ (d : ℕ). d ∷ []) e);
    }

last-many : (n : ℕ) → 10 ≤ n → Last n
unfolding decimal
last-many n h =
    record {
      front = decimal (n / 10);
      here = digits-turn n [] h ∙ digits-behind (n / 10) (n / 10) [] ((48 + n % 10) ∷ []);
      next = λ l.
          let q : (n + 1) / 10 ≡ n / 10 = omega (arith, l) in
          let e : 48 + (n + 1) % 10 ≡ 49 + n % 10 = omega (arith, l) in
          digits-turn (n + 1) [] (omega (arith, h)) ∙ digits-behind ((n + 1) / 10) ((n + 1) / 10) [] ((48 + (n + 1) % 10) ∷ [])
          ∙ ap₂ (λ (m d : ℕ). decimal m ++ (d ∷ [])) q e;
    }

pub last-digit : (n : ℕ) → Last n
last-digit n = by (ltb n 10) refl
  where
    by : (b : Bool) → ltb n 10 ≡ b → Last n
    by true e = last-few n (ltb-true n 10 e)
    by false e = last-many n (ltb-false n 10 e)

-- digits that end before byte 20, 21 bytes before the end
pub digits_long : (n r : ℕ) (line tail : List ℕ) → drop r line ≡ decimal n ++ tail → r < 20 → length line ≡ 41 → length tail ≡ 21 → r + length (decimal n) ≡ 20
digits_long n r line tail e h l m = omega (arith, h, l, m, length-drop r line, ap length e, length-append (decimal n) tail)

-- the digits put are those of the line from r on
pub decimal-put : (n at place r : ℕ) (line tail o o' : List ℕ) → n < 2 ^ 64 → drop r line ≡ decimal n ++ tail → r < 20 → length line ≡ 41 → length tail ≡ 21
    → o' ≡ sets o at (take (20 - r) (drop r line)) → place ≡ at + length (take (20 - r) (drop r line))
    → (o' ≡ sets o at (decimal n)) × (place ≡ at + length (decimal n)) × (length (decimal n) ≤ 20)
decimal-put n at place r line tail o o' h e b l m p q =
    let d = digits_long n r line tail e b l m in
    let s : take (20 - r) (drop r line) ≡ decimal n = ap (take (20 - r)) e ∙ take_at (decimal n) tail (20 - r) (omega (arith, d)) in
    (p ∙ ap (sets o at) s, q ∙ ap (λ (zs : List ℕ). at + length zs) s, decimal-short n (omega arith))

-- the digits as std has them
pub as-std : (n : ℕ) → n < 2 ^ 64 → std.decimal n ≡ decimal n
unfolding decimal
as-std n h =
    decimal_by_steps (λ (n : ℕ) (ds : List ℕ). ds ≡ decimal n) (λ n l. sym (digits_last n [] l))
    (λ n ds l e. ap (λ (xs : List ℕ). xs ++ ((48 + n % 10) ∷ [])) e ∙ sym (digits-turn n [] l ∙ digits-behind (n / 10) (n / 10) [] ((48 + n % 10) ∷ []))) n h

-- ---- words

pub hexadecimal-long : (k w : ℕ) → length (hexadecimal k w) ≡ k
unfolding hexadecimal
hexadecimal-long zero w = refl
hexadecimal-long (suc k) w = ap suc (hexadecimal-long k w)

word-digit : (k w : ℕ) → 0 < k → hexadecimal k w ≡ hex_digit (w / 2 ^ (4 * (k - 1)) % 16) ∷ hexadecimal (k - 1) w
unfolding hexadecimal
word-digit zero w h = absurd (omega arith)
word-digit (suc k) w h = let e : k ≡ suc k - 1 = omega arith in ap (λ (j : ℕ). hex_digit (w / 2 ^ (4 * j) % 16) ∷ hexadecimal j w) e

pub word_more : (o₀ o o' : List ℕ) (at place place' k d w : ℕ) → 0 < k → sets o₀ at (hexadecimal 16 w) ≡ sets o place (hexadecimal k w)
    → d ≡ hex_digit (w / 2 ^ (4 * (k - 1)) % 16) → o' ≡ set o place d → place' ≡ place + 1
    → sets o₀ at (hexadecimal 16 w) ≡ sets o' place' (hexadecimal (k - 1) w)
word_more o₀ o o' at place place' k d w h e f p q =
    let s : suc place ≡ place' = omega (arith, q) in
    e ∙ ap (sets o place) (word-digit k w h)
    ∙ ap (λ (x : ℕ). sets (set o place x) (suc place) (hexadecimal (k - 1) w)) (sym f)
    ∙ ap₂ (λ (l : List ℕ) (m : ℕ). sets l m (hexadecimal (k - 1) w)) (sym p) s

pub word_end : (o₀ o : List ℕ) (at place k w : ℕ) → k ≤ 0 → sets o₀ at (hexadecimal 16 w) ≡ sets o place (hexadecimal k w) → o ≡ sets o₀ at (hexadecimal 16 w)
unfolding hexadecimal
word_end o₀ o at place k w h e = let z : k ≡ 0 = omega arith in sym (e ∙ ap (λ (j : ℕ). sets o place (hexadecimal j w)) z)

-- ---- pairs of digits

digit-small : (d : ℕ) → d < 16 → hex_digit d < 128
digit-small d h = by (ltb d 10) refl
  where
    by : (b : Bool) → ltb d 10 ≡ b → hex_digit d < 128
    by true e = rw e (omega (arith, h))
    by false e = rw e (omega (arith, h))

pub pairs-more : (t : List ℕ) (i v : ℕ) → i < length t → ((k : ℕ) → k < i → get_or t k 0 ≡ pair_of k) → v ≡ pair_of i → (k : ℕ) → k < i + 1 → get_or (set t i v) k 0 ≡ pair_of k
pairs-more t i v l f e =
    below_more (λ (k : ℕ). get_or (set t i v) k 0 ≡ pair_of k) i (λ k h. get_or-set_other t i k v 0 (λ (q : k ≡ i). omega (arith, h, q)) ∙ f k h) (get_or-set_same t i v 0 l ∙ e)

digit-above : (b q : ℕ) → b ≡ q % 256 → b / 16 ≡ q / 16 % 16
digit-above b q e = omega (arith, e)

digit-below : (b q : ℕ) → b ≡ q % 256 → b % 16 ≡ q % 16
digit-below b q e = omega (arith, e)

-- the byte behind which 2 k - 2 digits stand, and its pair
module _ (w k b p : ℕ) (h : 0 < k) (e : b ≡ w / 2 ^ (8 * (k - 1)) % 256) (f : p ≡ pair_of b) where
  pub pair_fits : p / 256 < 256
  unfolding pair_of
  pair_fits =
      let u = digit-small (b / 16) (omega (arith, e)) in
      let v = digit-small (b % 16) (omega arith) in
      omega (arith, f, u, v)

  pair-first : p % 256 ≡ hex_digit (w / 2 ^ (4 * (2 * k - 1)) % 16)
  unfolding pair_of
  pair-first =
      let q = w / 2 ^ (8 * (k - 1)) in
      let x : 8 * (k - 1) + 4 ≡ 4 * (2 * k - 1) = omega (arith, h) in
      let y : b / 16 ≡ w / 2 ^ (4 * (2 * k - 1)) % 16 = digit-above b q e ∙ ap (λ (n : ℕ). n % 16) (shr-shr w (8 * (k - 1)) 4 ∙ ap (λ (m : ℕ). w / 2 ^ m) x) in
      let u = digit-small (b / 16) (omega (arith, e)) in
      let z : p % 256 ≡ hex_digit (b / 16) = omega (arith, f, u) in
      z ∙ ap hex_digit y

  pair-second : p / 256 ≡ hex_digit (w / 2 ^ (4 * (2 * k - 1 - 1)) % 16)
  unfolding pair_of
  pair-second =
      let x : 8 * (k - 1) ≡ 4 * (2 * k - 1 - 1) = omega (arith, h) in
      let y : b % 16 ≡ w / 2 ^ (4 * (2 * k - 1 - 1)) % 16 = digit-below b (w / 2 ^ (8 * (k - 1))) e ∙ ap (λ (m : ℕ). w / 2 ^ m % 16) x in
      let u = digit-small (b / 16) (omega (arith, e)) in
      let z : p / 256 ≡ hex_digit (b % 16) = omega (arith, f, u) in
      z ∙ ap hex_digit y

  -- both stored
  pub pair-more : (o₀ o : List ℕ) (at place : ℕ) → sets o₀ at (hexadecimal 16 w) ≡ sets o place (hexadecimal (2 * k) w)
      → sets o₀ at (hexadecimal 16 w) ≡ sets (set (set o place (p % 256)) (place + 1) (p / 256)) (place + 2) (hexadecimal (2 * (k - 1)) w)
  pair-more o₀ o at place g =
      let x : 2 * k - 1 - 1 ≡ 2 * (k - 1) = omega (arith, h) in
      word_more o₀ (set o place (p % 256)) _ at (place + 1) (place + 2) (2 * k - 1) (p / 256) w (omega (arith, h))
      (word_more o₀ o _ at place (place + 1) (2 * k) (p % 256) w (omega (arith, h)) g pair-first refl refl) pair-second refl (omega arith)
      ∙ ap (λ (j : ℕ). sets (set (set o place (p % 256)) (place + 1) (p / 256)) (place + 2) (hexadecimal j w)) x

-- the k-th pair of a word of 8, in a line from byte 21 on
module _ (w k b p : ℕ) (h : k < 8) (e : b ≡ w / 2 ^ (56 - 8 * k) % 256) (f : p ≡ pair_of b) where
  byte-down : b ≡ w / 2 ^ (8 * (8 - k - 1)) % 256
  byte-down = let x : 56 - 8 * k ≡ 8 * (8 - k - 1) = omega (arith, h) in e ∙ ap (λ (m : ℕ). w / 2 ^ m % 256) x

  pub word-fits : p / 256 < 256
  word-fits = pair_fits w (8 - k) b p (omega (arith, h)) byte-down f

  pub word-pair : (o₀ o : List ℕ) → sets o₀ 21 (hexadecimal 16 w) ≡ sets o (21 + 2 * k) (hexadecimal (16 - 2 * k) w)
      → sets o₀ 21 (hexadecimal 16 w) ≡ sets (set (set o (21 + 2 * k) (p % 256)) (21 + 2 * k + 1) (p / 256)) (21 + 2 * (k + 1)) (hexadecimal (16 - 2 * (k + 1)) w)
  word-pair o₀ o g =
      let x : 16 - 2 * k ≡ 2 * (8 - k) = omega (arith, h) in
      let y : 2 * (8 - k - 1) ≡ 16 - 2 * (k + 1) = omega (arith, h) in
      let z : 21 + 2 * k + 2 ≡ 21 + 2 * (k + 1) = omega arith in
      pair-more w (8 - k) b p (omega (arith, h)) byte-down f o₀ o 21 (21 + 2 * k) (g ∙ ap (λ (j : ℕ). sets o (21 + 2 * k) (hexadecimal j w)) x)
      ∙ ap₂ (λ (m j : ℕ). sets (set (set o (21 + 2 * k) (p % 256)) (21 + 2 * k + 1) (p / 256)) m (hexadecimal j w)) z y
