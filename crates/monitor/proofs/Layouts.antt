-- The block of words that a tick is lent: one word of it is one of the list that stands there, and the block of a watch has the watch's layout. Assumes nothing.
use mathlib.Core.Path.{◌≡◌, sym, ◌∙◌, ap, ap₂}
use mathlib.Core.Bool.{cond}
use mathlib.Core.List.{List, map}
use Prim.Native.Nat.{ℕ, ◌+◌, ◌-◌, ◌%◌, ◌<◌, ◌≤◌}
use native.Mathlib.Nat.{mod-eq_of_lt}
use native.Mathlib.Omega.{arith}
use borrow.Author.Tests.{lt-ltb, le-ltb}
use lib.Dec.{ltb}
use lib.ListN.{length, get_or, set, take, drop, replicate, length-take, length-drop, length-set, length-map, length-replicate, get_or-map}
use lib.Seq.{sets, length-sets, get_or-take, get_or-drop, get_or-set_same, get_or-set_other, ext_get_or}
use Rattle.lexer.proofs.Bools.{taken, left}
use Rattle.windows.specs.Windows.{counted_in}
use Rattle.monitor.specs.Ticks.{Layout, layout, places_in, own_in, firsts_in, layout_in, within, letters_end, letter_at}
use Rattle.monitor.specs.Calls.{layout_block, LaidBy}
use Rattle.monitor.proofs.Stored.{before, stands_at, stored-from}

-- ---- a list that stands in a block

-- one of the n words from k on
pub word_in : (F : List ℕ) (k n i : ℕ) → i < n → get_or F (k + i) 0 ≡ get_or (take n (drop k F)) i 0
word_in F k n i h = sym (get_or-take n (drop k F) i 0 h ∙ get_or-drop k F i 0)

-- all of them
words-in : (F xs : List ℕ) (k n : ℕ) → length xs ≡ n → k + n ≤ length F → ((i : ℕ) → i < n → get_or F (k + i) 0 ≡ get_or xs i 0) → take n (drop k F) ≡ xs
words-in F xs k n e h f =
    let long : length (take n (drop k F)) ≡ n = omega (arith, length-take n (drop k F), length-drop k F) in
    ext_get_or 0 (take n (drop k F)) xs (long ∙ sym e) (λ i l. let b : i < n = omega (arith, l, long) in sym (word_in F k n i b) ∙ f i b)

-- a list that was stored from k on
stored-word : (K xs : List ℕ) (k i : ℕ) → k + length xs ≤ length K → i < length xs → get_or (sets K k xs) (k + i) 0 ≡ get_or xs i 0
stored-word K xs k i h l = stands_at (λ n. get_or (sets K k xs) n 0) 0 k xs i l (stored-from K k xs h)

-- numbers below 256 are their own lowest 8 bits
pub own-bytes : (xs : List ℕ) → ((i : ℕ) → i < length xs → get_or xs i 0 < 256) → map (λ x. x % 256) xs ≡ xs
own-bytes xs f =
    let e = length-map xs (λ (x : ℕ). x % 256) in
    ext_get_or 0 (map (λ x. x % 256) xs) xs e (λ i l. get_or-map (λ (x : ℕ). x % 256) xs i 0 ∙ mod-eq_of_lt (f i (omega (arith, l, e))))

-- ---- the block of a layout

module _ (P O H C : List ℕ) (mo le wi st ro : ℕ) (p : length P ≡ 256) (o : length O ≡ 32) (f : length H ≡ 32) (c : length C ≡ 256) where
  abbrev block : List ℕ
  block = layout_block P O H C mo le wi st ro

  abbrev first : List ℕ
  first = sets (replicate 1024 0) 0 P

  abbrev second : List ℕ
  second = sets first 256 O

  abbrev third : List ℕ
  third = sets second 288 H

  abbrev fourth : List ℕ
  fourth = sets third 320 C

  first-long : length first ≡ 1024
  first-long = length-sets (replicate 1024 0) 0 P ∙ length-replicate {A = ℕ} 1024 0

  second-long : length second ≡ 1024
  second-long = length-sets first 256 O ∙ first-long

  third-long : length third ≡ 1024
  third-long = length-sets second 288 H ∙ second-long

  fourth-long : length fourth ≡ 1024
  fourth-long = length-sets third 320 C ∙ third-long

  -- with its numbers
  abbrev counts₁ : List ℕ
  counts₁ = set fourth 576 mo

  abbrev counts₂ : List ℕ
  counts₂ = set counts₁ 577 le

  abbrev counts₃ : List ℕ
  counts₃ = set counts₂ 578 wi

  abbrev counts₄ : List ℕ
  counts₄ = set counts₃ 579 st

  block-long : length block ≡ 1024
  block-long =
      length-set counts₄ 580 ro ∙ length-set counts₃ 579 st ∙ length-set counts₂ 578 wi ∙ length-set counts₁ 577 le ∙ length-set fourth 576 mo
      ∙ fourth-long

  past_three : (j : ℕ) → j < 578 → get_or block j 0 ≡ get_or counts₂ j 0
  past_three j h =
      get_or-set_other counts₄ 580 j ro 0 (λ (e : j ≡ 580). omega arith) ∙ get_or-set_other counts₃ 579 j st 0 (λ (e : j ≡ 579). omega arith)
      ∙ get_or-set_other counts₂ 578 j wi 0 (λ (e : j ≡ 578). omega arith)

  past_all : (j : ℕ) → j < 576 → get_or block j 0 ≡ get_or fourth j 0
  past_all j h =
      past_three j (omega arith) ∙ get_or-set_other counts₁ 577 j le 0 (λ (e : j ≡ 577). omega arith)
      ∙ get_or-set_other fourth 576 j mo 0 (λ (e : j ≡ 576). omega arith)

  monitors-there : get_or block 576 0 ≡ mo
  monitors-there =
      past_three 576 (omega arith) ∙ get_or-set_other counts₁ 577 576 le 0 (λ (e : ◌≡◌ {A = ℕ} 576 577). omega arith)
      ∙ get_or-set_same fourth 576 mo 0 (omega (arith, fourth-long))

  letters-there : get_or block 577 0 ≡ le
  letters-there = past_three 577 (omega arith) ∙ get_or-set_same counts₁ 577 le 0 (omega (arith, length-set fourth 576 mo, fourth-long))

  places-there : places_in block ≡ P
  places-there =
      words-in block P 0 256 p (omega (arith, block-long))
      (λ i h.
      past_all (0 + i) (omega arith) ∙ before third 320 (0 + i) C (omega arith) ∙ before second 288 (0 + i) H (omega arith) ∙ before first 256 (0 + i) O (omega arith)
      ∙ stored-word (replicate 1024 0) P 0 i (omega (arith, length-replicate {A = ℕ} 1024 0)) (omega arith))

  own-there : own_in block ≡ O
  own-there =
      words-in block O 256 32 o (omega (arith, block-long))
      (λ i h.
      past_all (256 + i) (omega arith) ∙ before third 320 (256 + i) C (omega arith) ∙ before second 288 (256 + i) H (omega arith)
      ∙ stored-word first O 256 i (omega (arith, first-long)) (omega arith))

  firsts-there : firsts_in block ≡ H
  firsts-there =
      words-in block H 288 32 f (omega (arith, block-long))
      (λ i h. past_all (288 + i) (omega arith) ∙ before third 320 (288 + i) C (omega arith) ∙ stored-word second H 288 i (omega (arith, second-long)) (omega arith))

  pub layout-there : layout_in block ≡ layout P O H mo le
  layout-there =
      ap₂ (λ (a b : List ℕ). layout a b (firsts_in block) (get_or block 576 0) (get_or block 577 0)) places-there own-there
      ∙ ap₂ (λ (a : List ℕ) (m : ℕ). layout P O a m (get_or block 577 0)) firsts-there monitors-there
      ∙ ap (λ (l : ℕ). layout P O H mo l) letters-there

  pub counted-there : map (λ x. x % 256) C ≡ C → counted_in block ≡ C
  counted-there e =
      ap (map (λ x. x % 256))
      (words-in block C 320 256 c (omega (arith, block-long))
      (λ i h. past_all (320 + i) (omega arith) ∙ stored-word third C 320 i (omega (arith, third-long)) (omega arith)))
      ∙ e

  pub laid_out : map (λ x. x % 256) C ≡ C → (F : List ℕ) → F ≡ block → LaidBy P O H C mo le wi st ro F
  laid_out m F e = (e, ap (λ (b : List ℕ). layout_in b) e ∙ layout-there, ap (λ (b : List ℕ). counted_in b) e ∙ counted-there m)

-- ---- a letter of a monitor

module _ (F : List ℕ) (i l : ℕ) where
  abbrev y : Layout
  y = within (layout_in F)

  abbrev from : ℕ
  from = get_or y.firsts i 0

  abbrev to : ℕ
  to = letters_end y.firsts y.monitors y.letters i

  pub no-monitor : (m : ℕ) → m ≡ y.monitors → m ≤ i → (256 ≡ letter_at F i l) × (256 ≤ 256)
  no-monitor m e h = (sym (left (ltb i y.monitors) (cond (ltb l (to - from)) (from + l) 256) 256 (le-ltb i y.monitors (omega (arith, e, h)))), omega arith)

  pub a-monitor : (m : ℕ) → m ≡ y.monitors → i < m → (f t : ℕ) → f ≡ from → t ≡ to → letter_at F i l ≡ cond (ltb l (t - f)) (f + l) 256
  a-monitor m e h f t p q =
      taken (ltb i y.monitors) (cond (ltb l (to - from)) (from + l) 256) 256 (lt-ltb i y.monitors (omega (arith, e, h)))
      ∙ sym (ap₂ (λ (a b : ℕ). cond (ltb l (b - a)) (a + l) 256) p q)

-- as a number, where its monitor has so many letters, or where it has not
pub no-letter : (x l f t : ℕ) → x ≡ cond (ltb l (t - f)) (f + l) 256 → t - f ≤ l → (256 ≡ x) × (256 ≤ 256)
no-letter x l f t e h = (sym (e ∙ left (ltb l (t - f)) (f + l) 256 (le-ltb l (t - f) h)), omega arith)

pub a-letter : (x l f t : ℕ) → x ≡ cond (ltb l (t - f)) (f + l) 256 → l < t - f → t ≤ 256 → (f + l ≡ x) × (f + l ≤ 256)
a-letter x l f t e h b = (sym (e ∙ taken (ltb l (t - f)) (f + l) 256 (lt-ltb l (t - f) h)), omega (arith, h, b))
