-- A token is the longest that can be taken at its place: it is what its bytes spell, and no more bytes from its place on spell a token.
-- Where nothing is taken, it is for one of the reasons of T7.
-- Assumes nothing.
use mathlib.Core.Path.{◌≡◌, refl, sym, ◌∙◌, ap, subst}
use mathlib.Core.Bool.{Bool, true, false, not, ◌||◌, false≢true, true≢false}
use mathlib.Core.List.{List, [], ◌∷◌}
use mathlib.Core.Option.{Option, none, some, none-ne-some}
use Prim.Native.Nat.{ℕ, zero, suc, ◌-◌, ◌^◌, ◌<◌, ◌≤◌}
use native.Mathlib.Nat.{not-suc-le-zero}
use native.Mathlib.Omega.{arith}
use native.Mathlib.Decide.{dec_lt}
use lib.Dec.{leb}
use lib.ListN.{length, take, drop, length-take, length-drop}
use lib.Seq.{length-take-le}
use borrow.Author.Tests.{leb-true}
use Rattle.lexer.specs.Bytes.{bytes, run, lookup, is_digit, is_letter, is_name_byte}
use Rattle.lexer.specs.Signs.{signs}
use Rattle.lexer.specs.Tokens.{Word, input, internal, define, monitor, past, limit, to, inside, spelling, Token, name, word, number, sign, end, refused, Placed, entries, or_name, taken, value_from, first_token, token_at, goes_on}
use Rattle.lexer.proofs.ByteClass.{digit-no-letter}
use Rattle.lexer.proofs.Bools.{and_left, clash}
use Rattle.lexer.proofs.Runs.{all, run_on, take-run, all-run, run-longest}
use Rattle.lexer.proofs.Spelling.{spelled, lookup-passes}
use Rattle.lexer.proofs.View.{First, fits, large, short, long, double, single, nothing, first}
use Rattle.lexer.proofs.Sized.{lies, at_place}
use Rattle.lexer.proofs.Parted.{is_end, view-no-end}

-- the first byte passes the test
abbrev pub starts : (ℕ → Bool) → List ℕ → Bool
starts p [] = false
starts p (b ∷ s) = p b

module _ (R : List Word) where
  -- the whole of x is one token: T3 to T6, read the other way round
  unfoldable pub Spells : List ℕ → Token → Type 0
  Spells x (name y) =
      (x ≡ y) × (starts is_letter x ≡ true) × (all is_name_byte x ≡ true) × (length x ≤ 16) × (lookup x (entries R) ≡ none)
  Spells x (word w) = lookup x (entries R) ≡ some w
  Spells x (number n) = (0 < length x) × (all is_digit x ≡ true) × (value_from 0 x ≡ n) × (n < 2 ^ 64)
  Spells x (sign n) = lookup x signs ≡ some n
  Spells x end = ⊥
  Spells x (refused n) = ⊥

-- the token t at the beginning of the text r is spelled by its bytes, and no more bytes of r spell a token
pub record Longest (R : List Word) (r : List ℕ) (t : Placed) : Type 0 where
  pub spells : Spells R (take (t.after - t.place) r) t.token
  pub longest : (n : ℕ) (k : Token) → n ≤ length r → Spells R (take n r) k → n ≤ t.after - t.place

-- what the spellings of all words pass, those of a list of them pass
words-pass : (q : List ℕ → Bool) → ((w : Word) → q (bytes (spelling w)) ≡ true) → (R : List Word) → spelled q (entries R) ≡ true
words-pass q h [] = refl
words-pass q h (w ∷ R) = rw (h w) (words-pass q h R)

word-starts : (w : Word) → starts is_letter (bytes (spelling w)) ≡ true
unfolding is_letter
word-starts input = refl
word-starts internal = refl
word-starts define = refl
word-starts monitor = refl
word-starts past = refl
word-starts limit = refl
word-starts to = refl
word-starts inside = refl

word_bytes : (w : Word) → all is_name_byte (bytes (spelling w)) ≡ true
unfolding is_letter is_digit
word_bytes input = refl
word_bytes internal = refl
word_bytes define = refl
word_bytes monitor = refl
word_bytes past = refl
word_bytes limit = refl
word_bytes to = refl
word_bytes inside = refl

starts-take : (q : ℕ → Bool) (n b : ℕ) (u : List ℕ) → starts q (take n (b ∷ u)) ≡ true → (1 ≤ n) × (q b ≡ true)
starts-take q zero b u e = absurd (false≢true e)
starts-take q (suc n) b u e = (omega arith, e)

-- a byte that begins neither a name nor a number
abbrev is_other : ℕ → Bool
is_other b = not (is_name_byte b)

other-no : (l d : Bool) → not (l || d) ≡ true → (l ≡ false) × (d ≡ false)
other-no true d e = absurd (false≢true e)
other-no false true e = absurd (false≢true e)
other-no false false e = (refl, refl)

module _ (R : List Word) where
  -- what a spelling's first byte says of the token
  module _ (n b : ℕ) (u : List ℕ) where
    word-letter : (w : Word) → lookup (take n (b ∷ u)) (entries R) ≡ some w → (1 ≤ n) × (is_letter b ≡ true)
    unfolding is_letter
    word-letter w e = starts-take is_letter n b u (lookup-passes (starts is_letter) (take n (b ∷ u)) (entries R) w (words-pass (starts is_letter) word-starts R) e)

    number-digit : 0 < length (take n (b ∷ u)) → all is_digit (take n (b ∷ u)) ≡ true → is_digit b ≡ true
    number-digit h e = (starts-take is_digit n b u (go (take n (b ∷ u)) h e)).1
      where
        go : (x : List ℕ) → 0 < length x → all is_digit x ≡ true → starts is_digit x ≡ true
        go [] h e = absurd (not-suc-le-zero h)
        go (b ∷ x) h e = and_left (is_digit b) (all is_digit x) e

    sign-other : (m : ℕ) → lookup (take n (b ∷ u)) signs ≡ some m → (1 ≤ n) × (is_letter b ≡ false) × (is_digit b ≡ false)
    unfolding is_letter is_digit
    sign-other m e =
        let o = starts-take is_other n b u (lookup-passes (starts is_other) (take n (b ∷ u)) signs m refl e) in
        let f = other-no (is_letter b) (is_digit b) o.1 in
        (o.0, f.0, f.1)

    -- no sign has more than two bytes
    sign-two : (m : ℕ) → n ≤ length (b ∷ u) → lookup (take n (b ∷ u)) signs ≡ some m → n ≤ 2
    sign-two m h e =
        omega
        (arith, leb-true (length (take n (b ∷ u))) 2 (lookup-passes (λ x. leb (length x) 2) (take n (b ∷ u)) signs m refl e), length-take-le n (b ∷ u) h)

  -- which bytes of a text can spell a token, by its first byte
  module _ (b : ℕ) (u : List ℕ) (n : ℕ) where
    digits-longest : is_digit b ≡ true → (k : Token) → n ≤ length (b ∷ u) → Spells R (take n (b ∷ u)) k → n ≤ length (run is_digit (b ∷ u))
    unfolding Spells
    digits-longest d (name y) h s = clash (is_letter b) (starts-take is_letter n b u s.1).1 (digit-no-letter b d)
    digits-longest d (word w) h s = clash (is_letter b) (word-letter n b u w s).1 (digit-no-letter b d)
    digits-longest d (number m) h s = run-longest is_digit n (b ∷ u) h s.1
    digits-longest d (sign m) h s = clash (is_digit b) d (sign-other n b u m s).2
    digits-longest d end h s = absurd s
    digits-longest d (refused m) h s = absurd s

    names-longest : is_digit b ≡ false → is_letter b ≡ true → (k : Token) → n ≤ length (b ∷ u) → Spells R (take n (b ∷ u)) k
        → n ≤ length (run is_name_byte (b ∷ u))
    unfolding Spells is_letter is_digit
    names-longest d l (name y) h s = run-longest is_name_byte n (b ∷ u) h s.2
    names-longest d l (word w) h s = run-longest is_name_byte n (b ∷ u) h (lookup-passes (all is_name_byte) (take n (b ∷ u)) (entries R) w (words-pass (all is_name_byte) word_bytes R) s)
    names-longest d l (number m) h s = clash (is_digit b) (number-digit n b u s.0 s.1) d
    names-longest d l (sign m) h s = clash (is_letter b) l (sign-other n b u m s).1
    names-longest d l end h s = absurd s
    names-longest d l (refused m) h s = absurd s

    signs-only : is_digit b ≡ false → is_letter b ≡ false → (k : Token) → Spells R (take n (b ∷ u)) k → (m : ℕ) × (lookup (take n (b ∷ u)) signs ≡ some m)
    unfolding Spells
    signs-only d l (name y) s = clash (is_letter b) (starts-take is_letter n b u s.1).1 l
    signs-only d l (word w) s = clash (is_letter b) (word-letter n b u w s).1 l
    signs-only d l (number m) s = clash (is_digit b) (number-digit n b u s.0 s.1) d
    signs-only d l (sign m) s = (m, s)
    signs-only d l end s = absurd s
    signs-only d l (refused m) s = absurd s

    -- where no sign of two bytes begins, no more than one byte is a sign
    sign-one : lookup (take 2 (b ∷ u)) signs ≡ none → (m : ℕ) → n ≤ length (b ∷ u) → lookup (take n (b ∷ u)) signs ≡ some m → n ≤ 1
    sign-one f m h e = go (dec_lt 1 n)
      where
        go : Dec (1 < n) → n ≤ 1
        go (no l) = omega arith
        go (yes l) =
            let t : n ≡ 2 = omega (arith, sign-two n b u m h e) in
            absurd (none-ne-some m (sym f ∙ ap (λ (i : ℕ). lookup (take i (b ∷ u)) signs) (sym t) ∙ e))

  -- a token of m bytes at the beginning of r
  taken-longest : (r : List ℕ) (t : Placed) (p m : ℕ) (k : Token) → t ≡ taken p k m → Spells R (take m r) k
      → ((n : ℕ) (j : Token) → n ≤ length r → Spells R (take n r) j → n ≤ m) → Longest R r t
  taken-longest r t p m k e s l =
      let q : t.after - t.place ≡ m = ap (λ (t : Placed). t.after - t.place) e ∙ omega arith in
      record {
        spells = subst (Spells R (take (t.after - t.place) r)) (sym (ap (λ (t : Placed). t.token) e)) (rw q s);
        longest = λ n j h z. rw q (l n j h z);
      }

take-two : (b : ℕ) (u : List ℕ) → take (length (take 2 (b ∷ u))) (b ∷ u) ≡ take 2 (b ∷ u)
take-two b [] = refl
take-two b (c ∷ u) = refl

module _ (R : List Word) where
  -- the run of digits spells its value, and the run of a name's bytes a word or a name
  number-spells : (b : ℕ) (u : List ℕ) → is_digit b ≡ true → value_from 0 (run is_digit (b ∷ u)) < 2 ^ 64
      → Spells R (run is_digit (b ∷ u)) (number (value_from 0 (run is_digit (b ∷ u))))
  unfolding Spells
  number-spells b u d v = (rw (run_on is_digit b u d) (omega arith), all-run is_digit (b ∷ u), refl, v)

  name-spells : (b : ℕ) (u : List ℕ) → is_letter b ≡ true → length (run is_name_byte (b ∷ u)) ≤ 16
      → Spells R (run is_name_byte (b ∷ u)) (or_name (run is_name_byte (b ∷ u)) (lookup (run is_name_byte (b ∷ u)) (entries R)))
  unfolding Spells
  name-spells b u l v = go (lookup (run is_name_byte (b ∷ u)) (entries R)) refl
    where
      go : (o : Option Word) → lookup (run is_name_byte (b ∷ u)) (entries R) ≡ o → Spells R (run is_name_byte (b ∷ u)) (or_name (run is_name_byte (b ∷ u)) o)
      go (some w) e = e
      go none e = (refl, rw (run_on is_name_byte b u (rw l)) l, all-run is_name_byte (b ∷ u), v, e)

  view-longest : (p b : ℕ) (u : List ℕ) (t : Placed) → First R p b u t → goes_on t.token ≡ true → Longest R (b ∷ u) t
  unfolding Spells
  view-longest p b u t (fits d v e) g =
      taken-longest R (b ∷ u) t p _ _ e
      (rw (take-run is_digit (b ∷ u)) (number-spells b u d v))
      (λ n k h s. digits-longest R b u n d k h s)
  view-longest p b u t (large d v e) g = clash _ g (ap (λ (t : Placed). goes_on t.token) e)
  view-longest p b u t (short d l v e) g =
      taken-longest R (b ∷ u) t p _ _ e
      (rw (take-run is_name_byte (b ∷ u)) (name-spells b u l v))
      (λ n k h s. names-longest R b u n d l k h s)
  view-longest p b u t (long d l v e) g = clash _ g (ap (λ (t : Placed). goes_on t.token) e)
  view-longest p b u t (double d l n f e) g =
      taken-longest R (b ∷ u) t p _ _ e (rw (take-two b u) f)
      (λ i k h s.
      let m = signs-only R b u i d l k s in
      omega (arith, sign-two R i b u m.0 h m.1, length-take 2 (b ∷ u)))
  view-longest p b u t (single d l f n z e) g =
      taken-longest R (b ∷ u) t p _ _ e z
      (λ i k h s.
      let m = signs-only R b u i d l k s in
      sign-one R b u i f m.0 h m.1)
  view-longest p b u t (nothing d l f z e) g = clash _ g (ap (λ (t : Placed). goes_on t.token) e)

  first-longest : (p : ℕ) (r : List ℕ) (t : Placed) → t ≡ first_token R p r → goes_on t.token ≡ true → Longest R r t
  unfolding first_token
  first-longest p [] t e g = clash _ g (ap (λ (t : Placed). goes_on t.token) e)
  first-longest p (b ∷ u) t e g = view-longest p b u t (subst (First R p b u) (sym e) (first R p b u)) g

  -- LONGEST. Any token of any text is spelled by its bytes, and no more bytes from its place on spell a token.
  pub token-longest : (s : List ℕ) (at : ℕ) → goes_on (token_at R s at).token ≡ true → Longest R (drop (token_at R s at).place s) (token_at R s at)
  token-longest s at g = first-longest (token_at R s at).place (drop (token_at R s at).place s) (token_at R s at) (at_place R s at) g

-- why a text r begins with a knot: T7, no token begins there, or a name or number is too long
pub data Why (R : List Word) (r : List ℕ) : Type 0 where
  no_token : ((n : ℕ) (k : Token) → n ≤ length r → Spells R (take n r) k → ⊥) → Why R r
  long_name : starts is_letter r ≡ true → 16 < length (run is_name_byte r) → Why R r
  large_number : starts is_digit r ≡ true → 2 ^ 64 ≤ value_from 0 (run is_digit r) → Why R r

-- a token that is taken is no refusal
taken-clash : {A : Type 0} (t : Placed) (k : Token) (n : ℕ) → goes_on k ≡ true → t.token ≡ k → t.token ≡ refused n → A
taken-clash t k n g e f = clash (goes_on (refused n)) (ap goes_on (sym f ∙ e) ∙ g) refl

module _ (R : List Word) where
  view-why : (p b : ℕ) (u : List ℕ) (t : Placed) → First R p b u t → (n : ℕ) → t.token ≡ refused n → (n ≡ 2) × Why R (b ∷ u)
  view-why p b u t (fits d v e) n f = taken-clash t _ n refl (ap (λ (t : Placed). t.token) e) f
  view-why p b u t (large d v e) n f = (cc, large_number d v)
  view-why p b u t (short d l v e) n f = taken-clash t _ n (go (lookup (run is_name_byte (b ∷ u)) (entries R))) (ap (λ (t : Placed). t.token) e) f
    where
      go : (o : Option Word) → goes_on (or_name (run is_name_byte (b ∷ u)) o) ≡ true
      go none = refl
      go (some w) = refl
  view-why p b u t (long d l v e) n f = (cc, long_name l v)
  view-why p b u t (double d l m g e) n f = taken-clash t _ n refl (ap (λ (t : Placed). t.token) e) f
  view-why p b u t (single d l g m h e) n f = taken-clash t _ n refl (ap (λ (t : Placed). t.token) e) f
  view-why p b u t (nothing d l g h e) n f = (cc, no_token none-spelled)
    where
      one : (i m : ℕ) → i ≤ 1 → 1 ≤ i → lookup (take i (b ∷ u)) signs ≡ some m → ⊥
      one i m a c q =
          let k : i ≡ 1 = omega arith in
          none-ne-some m (sym h ∙ ap (λ (j : ℕ). lookup (take j (b ∷ u)) signs) (sym k) ∙ q)

      none-spelled : (i : ℕ) (k : Token) → i ≤ length (b ∷ u) → Spells R (take i (b ∷ u)) k → ⊥
      none-spelled i k a s =
          let m = signs-only R b u i d l k s in
          one i m.0 (sign-one R b u i g m.0 a m.1) (sign-other R i b u m.0 m.1).0 m.1

  first-why : (p : ℕ) (r : List ℕ) (t : Placed) → t ≡ first_token R p r → (n : ℕ) → t.token ≡ refused n → (n ≡ 2) × Why R r
  unfolding first_token
  first-why p [] t e n f = absurd (true≢false (ap is_end (sym (ap (λ (t : Placed). t.token) e) ∙ f)))
  first-why p (b ∷ u) t e n f = view-why p b u t (subst (First R p b u) (sym e) (first R p b u)) n f

  -- KNOT. What is refused has the number 2, and is refused for one of the reasons of T7.
  pub knot-why : (s : List ℕ) (at n : ℕ) → (token_at R s at).token ≡ refused n → (n ≡ 2) × Why R (drop (token_at R s at).place s)
  knot-why s at n f = first-why (token_at R s at).place (drop (token_at R s at).place s) (token_at R s at) (at_place R s at) n f

  first-end : (p : ℕ) (r : List ℕ) (t : Placed) → t ≡ first_token R p r → t.token ≡ end → r ≡ []
  first-end p [] t e f = refl
  first-end p (b ∷ u) t e f =
      clash _ (ap is_end f) (view-no-end R p b u t (subst (First R p b u) (sym e) (first R p b u)))

  -- END. The end's place is the text's length.
  pub end-place : (s : List ℕ) (at : ℕ) → (token_at R s at).token ≡ end → (token_at R s at).place ≡ length s
  end-place s at f =
      omega (
        arith,
        ap length (first-end (token_at R s at).place (drop (token_at R s at).place s) (token_at R s at) (at_place R s at) f),
        length-drop (token_at R s at).place s,
        (lies R s at).low,
        (lies R s at).high,
      )
