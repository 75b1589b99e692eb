-- The kept line of a good tick (specs/Laid.antt): laid out, counted on, and given its word. Assumes nothing.
use mathlib.Core.Path.{◌≡◌, refl, sym, ap, ap₂, ◌∙◌}
use mathlib.Core.List.{List, [], ◌∷◌, ◌++◌, append_assoc}
use Prim.Native.Nat.{ℕ, ◌+◌, ◌-◌, ◌%◌, ◌^◌, ◌<◌, ◌≤◌}
use native.Mathlib.Omega.{arith}
use lib.ListN.{length, get_or, set, take, drop, length-append, replicate, take-append-drop}
use lib.Seq.{sets, sets-eq, length-take-le, take_at, drop_at, take_all, get_or_at, set_at}
use Rattle.lexer.specs.Bytes.{bytes}
use Rattle.meaning.specs.Sheet.{decimal, hexadecimal, line}
use Rattle.sheet.specs.Laid.{Laid}
use Rattle.sheet.specs.Lines.{ok_line, tick_front}
use Rattle.std.specs.Fmt as std
use Rattle.sheet.proofs.PageSteps.{as-std, printed_as, Last, last-digit, hexadecimal-long}
use Rattle.sheet.specs.Pages.{Printed}
use Rattle.sheet.specs.declared.page.Page.{Page}
use Rattle.sheet.proofs.LineSteps.{behind-front}

-- what stands behind the number
abbrev tail : List ℕ → List ℕ
tail word = 32 ∷ (word ++ bytes " ok\n")

tail-long : (word : List ℕ) → length word ≡ 16 → length (tail word) ≡ 21
tail-long word h = omega (arith, h, length-append word (bytes " ok\n"))

-- digits written in front of such a tail
pub laid_filled : (word row row' : List ℕ) (r t : ℕ) → length word ≡ 16 → drop 20 row ≡ tail word → t < 2 ^ 64
    → r + length (std.decimal t) ≡ 20 → drop r row' ≡ std.decimal t ++ drop 20 row → length row' ≡ 41 → Laid row' r t
laid_filled word row row' r t h p small b e l =
    let d = as-std t small in
    let q : drop r row' ≡ decimal t ++ tail word = e ∙ ap₂ (λ (x y : List ℕ). x ++ y) d p in
    record {
      front = take r row';
      word = word;
      whole = sym (take-append-drop r row') ∙ ap (λ (x : List ℕ). take r row' ++ x) q;
      starts = length-take-le r row' (omega (arith, b, l));
      ends = omega (arith, b, ap length d);
      long = h;
    }

-- the number in front of blanks and the verdict
pub laid-blank : (row' : List ℕ) (r t : ℕ) → t < 2 ^ 64 → r + length (std.decimal t) ≡ 20
    → drop r row' ≡ std.decimal t ++ drop 20 (set (set (set (replicate 41 32) 38 111) 39 107) 40 10) → length row' ≡ 41 → Laid row' r t
laid-blank row' r t = laid_filled (replicate 16 32) (set (set (set (replicate 41 32) 38 111) 39 107) 40 10) row' r t refl refl

module _ {row : List ℕ} {from t : ℕ} (m : Laid row from t) where
  abbrev head : List ℕ
  head = m.front ++ decimal t

  head-long : length head ≡ 20
  head-long = omega (arith, length-append m.front (decimal t), m.starts, m.ends)

  parted : row ≡ head ++ tail m.word
  parted = m.whole ∙ sym (append_assoc m.front (decimal t) (tail m.word))

  pub laid-tail : drop 20 row ≡ tail m.word
  laid-tail = ap (drop 20) parted ∙ drop_at head (tail m.word) 20 head-long

  pub laid-long : length row ≡ 41
  laid-long = ap length parted ∙ (let e : length (head ++ tail m.word) ≡ 41 = omega (arith, length-append head (tail m.word), head-long, tail-long m.word m.long) in e)

  -- the last digit, which ends before byte 20
  module _ (d : Last t) where
    abbrev before : List ℕ
    before = m.front ++ d.front

    ended : row ≡ before ++ ((48 + t % 10) ∷ tail m.word)
    ended =
        m.whole ∙ ap (λ (x : List ℕ). m.front ++ (x ++ tail m.word)) d.here
        ∙ simp append_assoc

    before-long : length before ≡ 19
    before-long = omega (arith, m.starts, m.ends, length-append m.front d.front, ap length d.here, length-append d.front ((48 + t % 10) ∷ []))

    last-here : get_or row 19 0 ≡ 48 + t % 10
    last-here = ap (λ (x : List ℕ). get_or x 19 0) ended ∙ get_or_at before (48 + t % 10) (tail m.word) 0 19 before-long

    next-by : get_or row 19 0 < 57 → Laid (set row 19 (get_or row 19 0 + 1)) from (t + 1)
    next-by h =
        let g = d.next (omega (arith, h, last-here)) in
        let v : get_or row 19 0 + 1 ≡ 49 + t % 10 = omega (arith, last-here) in
        record {
          front = m.front;
          word = m.word;
          whole =
              ap (λ (x : List ℕ). set x 19 (get_or row 19 0 + 1)) ended
              ∙ set_at before (48 + t % 10) (tail m.word) (get_or row 19 0 + 1) 19 before-long
              ∙ ap (λ (x : ℕ). before ++ (x ∷ tail m.word)) v
              ∙ sym (ap (λ (x : List ℕ). m.front ++ (x ++ tail m.word)) g ∙ simp append_assoc);
          starts = m.starts;
          ends =
              omega (
                arith,
                m.ends,
                ap length d.here,
                ap length g,
                length-append d.front ((48 + t % 10) ∷ []),
                length-append d.front ((49 + t % 10) ∷ []),
              );
          long = m.long;
        }

  pub laid_next : get_or row 19 0 < 57 → Laid (set row 19 (get_or row 19 0 + 1)) from (t + 1)
  laid_next = next-by (last-digit t)

  -- the word stored
  module _ (w : ℕ) (row' : List ℕ) (e : row' ≡ sets row 21 (hexadecimal 16 w)) where
    abbrev told : List ℕ
    told = decimal t ++ tail (hexadecimal 16 w)

    abbrev start : List ℕ
    start = head ++ (32 ∷ [])

    start-long : length start ≡ 21
    start-long = omega (arith, length-append head (32 ∷ []), head-long)

    split : row ≡ start ++ (m.word ++ bytes " ok\n")
    split = parted ∙ sym (append_assoc head (32 ∷ []) (m.word ++ bytes " ok\n"))

    behind : drop 37 row ≡ bytes " ok\n"
    behind =
        ap (drop 37) (split ∙ sym (append_assoc start m.word (bytes " ok\n")))
        ∙ drop_at (start ++ m.word) (bytes " ok\n") 37 (omega (arith, length-append start m.word, start-long, m.long))

    stored : row' ≡ m.front ++ told
    stored =
        let h = hexadecimal-long 16 w in
        let k : 21 + length (hexadecimal 16 w) ≡ 37 = omega (arith, h) in
        e ∙ sets-eq (hexadecimal 16 w) row 21 (omega (arith, h, laid-long))
        ∙ append_assoc (take 21 row) (hexadecimal 16 w) (drop (21 + length (hexadecimal 16 w)) row)
        ∙ ap (λ (x : List ℕ). x ++ (hexadecimal 16 w ++ drop (21 + length (hexadecimal 16 w)) row)) (ap (take 21) split ∙ take_at start (m.word ++ bytes " ok\n") 21 start-long)
        ∙ ap (λ (x : List ℕ). start ++ (hexadecimal 16 w ++ x)) (ap (λ (n : ℕ). drop n row) k ∙ behind)
        ∙ simp append_assoc

    pub laid-told : Laid row' from t
    laid-told = record { front = m.front; word = hexadecimal 16 w; whole = stored; starts = m.starts; ends = m.ends; long = hexadecimal-long 16 w }

    from-here : drop from row' ≡ told
    from-here = ap (drop from) stored ∙ drop_at m.front told from m.starts

    told-long : length told ≡ 41 - from
    told-long = omega (arith, length-append (decimal t) (tail (hexadecimal 16 w)), m.ends, tail-long (hexadecimal 16 w) (hexadecimal-long 16 w))

    ok-told : told ≡ ok_line t w
    unfolding line
    ok-told = refl

    ok-part : take (41 - from) (drop from row') ≡ ok_line t w
    ok-part = ap (take (41 - from)) from-here ∙ take_all (41 - from) told (omega (arith, told-long)) ∙ ok-told

    front-told : told ≡ tick_front t w ++ bytes "ok\n"
    front-told = sym (behind-front t w (bytes "ok\n"))

    front_long : length (tick_front t w) ≡ 38 - from
    front_long = omega (arith, told-long, ap length front-told, length-append (tick_front t w) (bytes "ok\n"))

    front-part : take (38 - from) (drop from row') ≡ tick_front t w
    front-part = ap (take (38 - from)) (from-here ∙ front-told) ∙ take_at (tick_front t w) (bytes "ok\n") (38 - from) front_long

    -- the line printed, and its front
    module _ {p q : Page} where
      pub good-line : Printed p q (take (41 - from) (drop from row')) → Printed p q (ok_line t w)
      good-line = printed_as ok-part

      pub front-line : Printed p q (take (38 - from) (drop from row')) → Printed p q (tick_front t w)
      front-line = printed_as front-part

    pub good-short : length (ok_line t w) ≤ 64
    good-short = omega (arith, told-long, ap length ok-told)

    pub front-short : length (tick_front t w) ≤ 38
    front-short = omega (arith, front_long)
