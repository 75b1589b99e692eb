-- What stands at a node is laid: a letter, a star, or an operator of two operands. Assumes nothing.
use mathlib.Core.Path.{◌≡◌, refl, sym, ◌∙◌, ap, subst}
use mathlib.Core.Bool.{Bool, true, false}
use mathlib.Core.List.{List, [], ◌∷◌, ◌++◌}
use Prim.Native.Nat.{ℕ, suc, ◌+◌, ◌*◌, ◌<◌, ◌≤◌}
use native.Mathlib.Numerals.{add-one}
use native.Mathlib.Omega.{arith}
use lib.ListN.{length, set, length-append}
use Rattle.meaning.specs.Expression.{Letter, Exp, letter, seq, alt, star, pipe, letters, size, rows}
use Rattle.words.specs.Words.{part0, part1, part2, part3}
use Rattle.rules.specs.Cells.{at, Link, Node, LetterNode, CameNode, letter_kind, Denotes, tests_on, writes_on, held_at}
use Rattle.rules.specs.declared.lay.Tables.{Tables}
use Rattle.rules.specs.declared.lay.Laid.{Laid}
use Rattle.rules.specs.Laying.{row_code, row_codes, with_rows, two_slots, LetterLists, letters_in, with_row, with_slots, with_letters, LinksAt, SomeLinks, LetterAt, SomeLetter, BareAt, ExpAt, SomeExp, Stored, StoredIn}
use Rattle.meaning.proofs.ListLaws.{clash}
use Rattle.rules.proofs.PartLaws.{came-node, node_of, kind-letter}
use Rattle.rules.proofs.Overlay.{row_before, rows-two, letters-behind, one-letter}

-- ---- a letter's words

-- some letter stands there, without the productions that it came through
abbrev pub SomeBare : List ℕ → ℕ → Type 0
SomeBare P n = (c : ℕ) × (x : Letter) × BareAt P c n x

module _ (P : List ℕ) (n : ℕ) where
  pub letter-inside : SomeBare P n → n + 2 < length P
  unfolding LetterNode
  letter-inside (c, x, s) = omega (arith, s.denotes.1, s.within)

  tests-at : (c : ℕ) (x : Letter) → BareAt P c n x → LinksAt P c (part1 (at P n)) (tests_on [] x.literals)
  unfolding LetterNode
  tests-at c x s = record { within = s.within; links = s.denotes.4 }

  writes_at : (c : ℕ) (x : Letter) → BareAt P c n x → LinksAt P c (part2 (at P n)) (writes_on [] x.writes)
  unfolding LetterNode
  writes_at c x s = record { within = s.within; links = s.denotes.5 }

  -- where its wires to be as before are
  pub held-inside : (k : ℕ) → k ≡ part3 (at P n) → SomeBare P n → k < length P
  unfolding LetterNode
  held-inside k e (c, x, s) = omega (arith, e, s.denotes.6.low, s.within)

  pub some_tests : (i : ℕ) → i ≡ part1 (at P n) → SomeBare P n → SomeLinks P i
  some_tests i e (c, x, s) = rw e (c, tests_on [] x.literals, tests-at c x s)

  pub some-writes : (i : ℕ) → i ≡ part2 (at P n) → SomeBare P n → SomeLinks P i
  some-writes i e (c, x, s) = rw e (c, writes_on [] x.writes, writes_at c x s)

  -- what is stored of links
  abbrev PutLinks : (i at : ℕ) → (A A' : Tables) → Type 0
  PutLinks i at A A' = (c : ℕ) → (xs : List Link) → LinksAt P c i xs → A' ≡ with_slots A at (two_slots xs)

  -- what is stored of a letter before its links
  abbrev pub with_head : Tables → (l : ℕ) → (look want held : ℕ) → Tables
  with_head A l a b h = record A { look = set A.look l a; want = set A.want l b; held = set A.held l h }

  pub letter-put : (l : ℕ) (A B C : Tables) (i j k m : ℕ) → i ≡ part1 (at P n) → j ≡ part2 (at P n) → k ≡ part3 (at P n) → m ≡ held_at P k
      → PutLinks i (4 * l) (with_head A l (at P (n + 1)) (at P (n + 2)) m) B → PutLinks j (4 * l + 2) B C
      → (c : ℕ) → (x : Letter) → BareAt P c n x → (C.table ≡ A.table) × (letters_in C ≡ with_letters (letters_in A) l (x ∷ []))
  unfolding LetterNode
  letter-put l A B C i j k m e f g h t w c x s =
      let p = t c (tests_on [] x.literals) (rw e (tests-at c x s)) in
      let q = w c (writes_on [] x.writes) (rw f (writes_at c x s)) in
      let u = q ∙ ap (λ (D : Tables). with_slots D (4 * l + 2) (two_slots (writes_on [] x.writes))) p in (
        ap (λ (D : Tables). D.table) u,
        ap letters_in u
            ∙ one-letter (letters_in A) l (at P (n + 1)) (at P (n + 2)) m x _ _ _ _ s.denotes.2 s.denotes.3 (h ∙ ap (held_at P) g ∙ s.denotes.6.mask) refl refl refl refl,
      )

-- ---- the productions that a letter came through

-- Below node n, at node k, the same letter stands, come through fewer productions; a test of them is the same of those that are left.
abbrev pub Below : (test : List ℕ → Bool) → (P : List ℕ) → (n k : ℕ) → Type 0
Below test P n k = (c : ℕ) → (x : Letter) → LetterAt P c n x → (ps : List ℕ) × CameNode P c k ps x.literals x.writes × (test x.through ≡ test ps)

module _ (test : List ℕ → Bool) (P : List ℕ) (n : ℕ) where
  pub below-start : Below test P n n
  unfolding Denotes
  below-start c x s = (x.through, s.denotes, refl)

  module _ (k : ℕ) (b : Below test P n k) where
    pub below-inside : SomeLetter P n → k < length P
    below-inside (c, x, s) = let (ps, d, e) = b c x s in omega (arith, (came-node P c k ps _ _ d).1, s.within)

    -- the letter's own node
    module _ (z : part0 (at P k) ≡ 5 → ⊥) (c : ℕ) (x : Letter) (s : LetterAt P c n x) where
      its_own : (ps : List ℕ) × CameNode P c k ps x.literals x.writes × (test x.through ≡ test ps)
          → LetterNode P c k x.literals x.writes × (test x.through ≡ test [])
      unfolding CameNode Node
      its_own ([], d, e) = (d, e)
      its_own (p ∷ ps, d, e) = absurd (z d.0.2)

      pub below_end : BareAt P c k x
      below_end = record { within = s.within; denotes = (its_own (b c x s)).0 }

      pub none_left : test x.through ≡ test []
      none_left = (its_own (b c x s)).1

    -- that of the production that it came through last
    module _ (z : part0 (at P k) ≡ 5) where
      its-last : (c : ℕ) (x : Letter) → LetterAt P c n x → (part1 (at P k) < k)
          × ((ps : List ℕ) × CameNode P c (part1 (at P k)) ps x.literals x.writes × (test x.through ≡ test (part2 (at P k) ∷ ps)))
      unfolding CameNode LetterNode Node
      its-last c x s = by (b c x s)
        where
          by : (ps : List ℕ) × CameNode P c k ps x.literals x.writes × (test x.through ≡ test ps) → (part1 (at P k) < k)
              × ((ps : List ℕ) × CameNode P c (part1 (at P k)) ps x.literals x.writes × (test x.through ≡ test (part2 (at P k) ∷ ps)))
          by ([], d, e) = absurd (omega (arith, d.0.2))
          by (p ∷ ps, d, e) = (d.1, (ps, d.3, e ∙ ap (λ (q : ℕ). test (q ∷ ps)) (sym d.2)))

      pub below-falls : SomeLetter P n → part1 (at P k) < k
      below-falls (c, x, s) = (its-last c x s).0

      pub below_next : ((ps : List ℕ) → test (part2 (at P k) ∷ ps) ≡ test ps) → Below test P n (part1 (at P k))
      below_next same c x s = let (l, (ps, d, e)) = its-last c x s in (ps, d, e ∙ same ps)

      pub found-last : (v : Bool) → ((ps : List ℕ) → test (part2 (at P k) ∷ ps) ≡ v) → (c : ℕ) → (x : Letter) → LetterAt P c n x → v ≡ test x.through
      found-last v is c x s = let (l, (ps, d, e)) = its-last c x s in sym (e ∙ is ps)

pub some-bare : (P : List ℕ) (n k : ℕ) → ((c : ℕ) → (x : Letter) → LetterAt P c n x → BareAt P c k x) → SomeLetter P n → SomeBare P k
some-bare P n k b (c, x, s) = (c, x, b c x s)

-- ---- the three forms

-- an operator of two operands, and its kind
pub data Operator : ℕ → (Exp → Exp → Exp) → Type 0 where
  is_seq : Operator 1 seq
  is_alt : Operator 2 alt
  is_pipe : Operator 4 pipe

module _ (e f : Exp) where
  two-rows : {k : ℕ} {op : Exp → Exp → Exp} → Operator k op → rows (op e f) ≡ 1 + rows e + rows f
  unfolding rows
  two-rows is_seq = refl
  two-rows is_alt = refl
  two-rows is_pipe = refl

  pub two_size : {k : ℕ} {op : Exp → Exp → Exp} → Operator k op → size (op e f) ≡ size e + size f
  unfolding size
  two_size is_seq = refl
  two_size is_alt = refl
  two_size is_pipe = refl

  pub two-letters : {k : ℕ} {op : Exp → Exp → Exp} → Operator k op → letters (op e f) ≡ letters e ++ letters f
  unfolding letters
  two-letters is_seq = refl
  two-letters is_alt = refl
  two-letters is_pipe = refl

  two-codes : (r up l : ℕ) {k : ℕ} {op : Exp → Exp → Exp} → Operator k op
      → row_codes r up l (op e f) ≡ row_code k (suc r) (suc r + rows e) up ∷ (row_codes (suc r) r l e ++ row_codes (suc r + rows e) r (l + size e) f)
  unfolding row_codes
  two-codes r up l is_seq = refl
  two-codes r up l is_alt = refl
  two-codes r up l is_pipe = refl

two-kind : {k : ℕ} {op : Exp → Exp → Exp} → Operator k op → (letter_kind k ≡ false) × (k ≡ 3 → ⊥)
two-kind is_seq = (refl, λ e. omega arith)
two-kind is_alt = (refl, λ e. omega arith)
two-kind is_pipe = (refl, λ e. omega arith)

-- what stands at node n
pub data Form (P : List ℕ) (c n : ℕ) : Exp → Type 0 where
  of_letter : (x : Letter) → letter_kind (part0 (at P n)) ≡ true → Form P c n (letter x)
  of_star : (e : Exp) → part0 (at P n) ≡ 3 → part1 (at P n) < n → Denotes P c (part1 (at P n)) e → Form P c n (star e)
  of_two : (e f : Exp) (k : ℕ) (op : Exp → Exp → Exp) → Operator k op → part0 (at P n) ≡ k → part1 (at P n) < n → part2 (at P n) < n
      → Denotes P c (part1 (at P n)) e → Denotes P c (part2 (at P n)) f → Form P c n (op e f)

pub form : (P : List ℕ) (c n : ℕ) (e : Exp) → Denotes P c n e → Form P c n e
unfolding Denotes Node
form P c n (letter x) d = of_letter x (kind-letter P c n (letter x) d)
form P c n (seq e f) (h, p, q, d, g) = of_two e f 1 seq is_seq h.2 p q d g
form P c n (alt e f) (h, p, q, d, g) = of_two e f 2 alt is_alt h.2 p q d g
form P c n (star e) (h, p, d) = of_star e h.2 p d
form P c n (pipe e f) (h, p, q, d, g) = of_two e f 4 pipe is_pipe h.2 p q d g

-- ---- room

pub some-room : (e : Exp) → (1 ≤ rows e) × (1 ≤ size e)
unfolding rows size
some-room (letter x) = (omega arith, omega arith)
some-room (seq e f) = let (a, b) = some-room e in (omega arith, omega arith)
some-room (alt e f) = let (a, b) = some-room e in (omega arith, omega arith)
some-room (star e) = let (a, b) = some-room e in (omega arith, omega arith)
some-room (pipe e f) = let (a, b) = some-room e in (omega arith, omega arith)

two-long : (r l : ℕ) (e f : Exp) → length (row_codes (suc r) r l e) ≡ rows e → length (row_codes (suc r + rows e) r (l + size e) f) ≡ rows f
    → suc (length (row_codes (suc r) r l e ++ row_codes (suc r + rows e) r (l + size e) f)) ≡ 1 + rows e + rows f
two-long r l e f p q = omega (arith, length-append (row_codes (suc r) r l e) (row_codes (suc r + rows e) r (l + size e) f))

pub codes-long : (r up l : ℕ) (e : Exp) → length (row_codes r up l e) ≡ rows e
unfolding row_codes rows
codes-long r up l (letter x) = refl
codes-long r up l (seq e f) = two-long r l e f (codes-long (suc r) r l e) (codes-long (suc r + rows e) r (l + size e) f)
codes-long r up l (alt e f) = two-long r l e f (codes-long (suc r) r l e) (codes-long (suc r + rows e) r (l + size e) f)
codes-long r up l (star e) = let p = codes-long (suc r) r l e in omega arith
codes-long r up l (pipe e f) = two-long r l e f (codes-long (suc r) r l e) (codes-long (suc r + rows e) r (l + size e) f)

pub letters-long : (e : Exp) → length (letters e) ≡ size e
unfolding letters size
letters-long (letter x) = refl
letters-long (seq e f) = omega (arith, length-append (letters e) (letters f), letters-long e, letters-long f)
letters-long (alt e f) = omega (arith, length-append (letters e) (letters f), letters-long e, letters-long f)
letters-long (star e) = letters-long e
letters-long (pipe e f) = omega (arith, length-append (letters e) (letters f), letters-long e, letters-long f)

-- ---- laying

module _ (P : List ℕ) (n row index : ℕ) where
  pub node-inside : SomeExp P n row index → n < length P
  node-inside (c, e, s) = omega (arith, (node_of P c n e s.denotes).1, s.within)

  pub first-room : SomeExp P n row index → (row < 1024) × (index < 256)
  first-room (c, e, s) = let (a, b) = some-room e in (omega (arith, s.room), omega (arith, s.space))

  -- whatever expression stands there is laid
  abbrev pub Lays : (up : ℕ) → (T T' : List ℕ) → (L L' : LetterLists) → (r l : ℕ) → Type 0
  Lays up T T' L L' r l = (c : ℕ) → (e : Exp) → ExpAt P c n row index e → Stored row up index e T T' L L' r l

  abbrev pub LaysIn : (up : ℕ) → (A A' : Tables) → Laid → Type 0
  LaysIn up A A' x = Lays up A.table A'.table (letters_in A) (letters_in A') x.row x.letter

-- ---- a letter

module _ (P : List ℕ) (n k : ℕ) (q : k ≡ part0 (at P n)) (z : letter_kind k ≡ true) where
  kind : letter_kind (part0 (at P n)) ≡ true
  kind = rw q at z

  a-letter : (c : ℕ) {g : Exp} → Form P c n g → (x : Letter) × (g ≡ letter x)
  a-letter c (of_letter x h) = (x, refl)
  a-letter c (of_star e h p d) = clash (let e : letter_kind (part0 (at P n)) ≡ false = ap letter_kind h in cc (kind))
  a-letter c (of_two e f k op o h p i d g) = clash (let e : letter_kind (part0 (at P n)) ≡ false = ap letter_kind h ∙ (two-kind o).0 in cc (kind))

  pub letter_at : (c : ℕ) (g : Exp) → c ≤ length P → Denotes P c n g → (x : Letter) × (g ≡ letter x) × LetterAt P c n x
  letter_at c g l d = let (x, e) = a-letter c (form P c n g d) in (x, e, record { within = l; denotes = subst (Denotes P c n) e d })

module _ (P : List ℕ) (n row index k : ℕ) (q : k ≡ part0 (at P n)) (z : letter_kind k ≡ true) where
  pub some-letter : SomeExp P n row index → SomeLetter P n
  some-letter (c, g, s) = let (x, e, t) = letter_at P n k q z c g s.within s.denotes in (c, x, t)

  -- the letter is put, and then its row
  pub letter-lays : (up : ℕ) (A B C : Tables) → ((c : ℕ) → (x : Letter) → LetterAt P c n x → (B.table ≡ A.table) × (letters_in B ≡ with_letters (letters_in A) index (x ∷ [])))
      → C ≡ with_row B row (row_code 0 index 0 up) → LaysIn P n row index up A C (record { row = row + 1; letter = index + 1 })
  unfolding row_codes letters rows size
  letter-lays up A B C a b c g s =
      let (x, e, t) = letter_at P n k q z c g s.within s.denotes in
      let (p, r) = a c x t in
      subst (λ (g : Exp). StoredIn row up index g A C (record { row = row + 1; letter = index + 1 })) (sym e)
      record {
        rows_stored = ap (λ (D : Tables). D.table) b ∙ ap (λ (T : List ℕ). with_rows T row (row_code 0 index 0 up ∷ [])) p;
        letters_stored = ap letters_in b ∙ r;
        next_row = refl;
        next_letter = refl;
      }

-- ---- an operator's first operand

module _ (P : List ℕ) (n k i : ℕ) (q : k ≡ part0 (at P n)) (b : i ≡ part1 (at P n)) where
  pub first-of : (c : ℕ) {g : Exp} → Form P c n g → letter_kind k ≡ false → (i < n) × ((e : Exp) × Denotes P c i e × (1 + rows e ≤ rows g) × (size e ≤ size g))
  unfolding rows size
  first-of c (of_letter x h) z = clash (cc)
  first-of c (of_star e h p d) z = (omega arith, (e, rw b d, omega arith, omega arith))
  first-of c (of_two e f k op o h p j d g) z = (omega arith, (e, rw b d, omega (arith, two-rows e f o), omega (arith, two_size e f o)))

  pub a-star : (c : ℕ) {g : Exp} → Form P c n g → k ≡ 3 → (e : Exp) × (g ≡ star e) × Denotes P c i e
  a-star c (of_letter x h) z = clash (let e : letter_kind (part0 (at P n)) ≡ false = ap letter_kind (sym q ∙ z) in cc)
  a-star c (of_star e h p d) z = (e, refl, rw b d)
  a-star c (of_two e f k op o h p j d g) z = absurd ((two-kind o).1 (sym h ∙ sym q ∙ z))

module _ (P : List ℕ) (n row index k i : ℕ) (q : k ≡ part0 (at P n)) (b : i ≡ part1 (at P n)) where
  pub some_first : letter_kind k ≡ false → SomeExp P n row index → (i < n) × SomeExp P i (row + 1) index
  some_first z (c, g, s) =
      let (l, (e, d, x, y)) = first-of P n k i q b c (form P c n g s.denotes) z in
      (l, (c, e, record { within = s.within; denotes = d; room = omega (arith, s.room); space = omega (arith, s.space) }))

  -- ---- a star

  pub star-lays : k ≡ 3 → (up : ℕ) (T T₁ T' : List ℕ) (L L' : LetterLists) (r l : ℕ) → Lays P i (row + 1) index row T T₁ L L' r l
      → T' ≡ with_rows T₁ row (row_code 3 (row + 1) 0 up ∷ []) → Lays P n row index up T T' L L' r l
  unfolding row_codes letters rows size
  star-lays z up T T₁ T' L L' r l a m c g s =
      let (e, w, d) = a-star P n k i q b c (form P c n g s.denotes) z in
      let x : row + rows (star e) ≤ 1024 = rw w at s.room in
      let y : index + size (star e) ≤ 256 = rw w at s.space in
      let t = a c e (record { within = s.within; denotes = d; room = omega arith; space = y }) in
      subst (λ (g : Exp). Stored row up index g T T' L L' r l) (sym w)
      record {
        rows_stored = m ∙ ap (λ (A : List ℕ). with_rows A row (row_code 3 (row + 1) 0 up ∷ [])) t.rows_stored ∙ rw (add-one row) (row_before T row (row_codes (suc row) row index e) (row_code 3 (suc row) 0 up));
        letters_stored = t.letters_stored;
        next_row = omega (arith, t.next_row);
        next_letter = t.next_letter;
      }

  -- the star's row is put behind its body
  pub star-laid : k ≡ 3 → (up : ℕ) (A B C : Tables) (x : Laid) → LaysIn P i (row + 1) index row A B x → C ≡ with_row B row (row_code 3 (row + 1) 0 up)
      → LaysIn P n row index up A C x
  star-laid z up A B C x a e = rw e (star-lays z up A.table B.table _ (letters_in A) (letters_in B) x.row x.letter a refl)

-- ---- an operator of two operands

pub record Two (P : List ℕ) (c n k i j : ℕ) (g : Exp) : Type 0 where
  pub e : Exp
  pub f : Exp
  pub op : Exp → Exp → Exp
  pub operator : Operator k op
  pub whole : g ≡ op e f
  pub falls : j < n
  pub first : Denotes P c i e
  pub second : Denotes P c j f

-- what is known of the second when the first is laid
pub record Second (P : List ℕ) (n j next from : ℕ) : Type 0 where
  pub falls : j < n
  pub stands : SomeExp P j next from

module _ (P : List ℕ) (n k i j : ℕ) (q : k ≡ part0 (at P n)) (b : i ≡ part1 (at P n)) (b' : j ≡ part2 (at P n)) (z : letter_kind k ≡ false) (y : k ≡ 3 → ⊥) where
  pub two : (c : ℕ) {g : Exp} → Form P c n g → Two P c n k i j g
  two c (of_letter x h) = clash (cc)
  two c (of_star e h p d) = absurd (y (q ∙ h))
  two c (of_two e f m op o h p p' d d') = record {
    e = e;
    f = f;
    op = op;
    operator = subst (λ (x : ℕ). Operator x op) (sym (q ∙ h)) o;
    whole = refl;
    falls = omega arith;
    first = rw b d;
    second = rw b' d';
  }

module _ (P : List ℕ) (n row index k i j : ℕ) (q : k ≡ part0 (at P n)) (b : i ≡ part1 (at P n)) (b' : j ≡ part2 (at P n)) (z : letter_kind k ≡ false) (y : k ≡ 3 → ⊥) where
  module _ (c : ℕ) (g : Exp) (s : ExpAt P c n row index g) (w : Two P c n k i j g) where
    whole-rows : rows g ≡ 1 + rows w.e + rows w.f
    whole-rows = ap rows w.whole ∙ two-rows w.e w.f w.operator

    whole-size : size g ≡ size w.e + size w.f
    whole-size = ap size w.whole ∙ two_size w.e w.f w.operator

    whole-codes : (up next from : ℕ) → next ≡ row + 1 + rows w.e → from ≡ index + size w.e
        → row_code k (row + 1) next up ∷ (row_codes (row + 1) row index w.e ++ row_codes next row from w.f) ≡ row_codes row up index g
    whole-codes up next from a b = rw (a, b, add-one row) (sym (ap (row_codes row up index) w.whole ∙ two-codes w.e w.f row up index w.operator))

    first-at : ExpAt P c i (row + 1) index w.e
    first-at = record { within = s.within; denotes = w.first; room = omega (arith, s.room, whole-rows); space = omega (arith, s.space, whole-size) }

    second_at : (next from : ℕ) → next ≡ row + 1 + rows w.e → from ≡ index + size w.e → ExpAt P c j next from w.f
    second_at next from a b = record { within = s.within; denotes = w.second; room = omega (arith, s.room, whole-rows); space = omega (arith, s.space, whole-size) }

  module _ (T T₁ : List ℕ) (L L₁ : LetterLists) (next from : ℕ) (a : Lays P i (row + 1) index row T T₁ L L₁ next from) where
    pub second-operand : SomeExp P n row index → Second P n j next from
    second-operand (c, g, s) =
        let w = two P n k i j q b b' z y c (form P c n g s.denotes) in
        let t = a c w.e (first-at c g s w) in
        record {
          falls = w.falls;
          stands = (c, w.f, second_at c g s w next from t.next_row t.next_letter);
        }

    pub two-lays : (up : ℕ) (T₂ T' : List ℕ) (L' : LetterLists) (r l : ℕ) → Lays P j next from row T₁ T₂ L₁ L' r l
        → T' ≡ with_rows T₂ row (row_code k (row + 1) next up ∷ []) → Lays P n row index up T T' L L' r l
    two-lays up T₂ T' L' r l d m c g s =
        let w = two P n k i j q b b' z y c (form P c n g s.denotes) in
        let t = a c w.e (first-at c g s w) in
        let u = d c w.f (second_at c g s w next from t.next_row t.next_letter) in
        record {
          rows_stored = rows-two T T₁ T₂ T' row next (row_code k (row + 1) next up) (row_codes (row + 1) row index w.e) (row_codes next row from w.f)
              (omega (arith, t.next_row, codes-long (row + 1) row index w.e)) t.rows_stored u.rows_stored m
              ∙ ap (with_rows T row) (whole-codes c g s w up next from t.next_row t.next_letter);
          letters_stored = u.letters_stored ∙ ap (λ (A : LetterLists). with_letters A from (letters w.f)) t.letters_stored
              ∙ letters-behind L index (letters w.e) from (letters w.f) (omega (arith, t.next_letter, letters-long w.e))
              ∙ ap (with_letters L index) (sym (ap letters w.whole ∙ two-letters w.e w.f w.operator));
          next_row = omega (arith, t.next_row, u.next_row, whole-rows c g s w);
          next_letter = omega (arith, t.next_letter, u.next_letter, whole-size c g s w);
        }

  -- the operator's row is put behind both
  module _ (A B : Tables) (x : Laid) (a : LaysIn P i (row + 1) index row A B x) where
    pub second-laid : SomeExp P n row index → Second P n j x.row x.letter
    second-laid = second-operand A.table B.table (letters_in A) (letters_in B) x.row x.letter a

    pub two-laid : (up : ℕ) (C D : Tables) (y : Laid) → LaysIn P j x.row x.letter row B C y → D ≡ with_row C row (row_code k (row + 1) x.row up)
        → LaysIn P n row index up A D y
    two-laid up C D y b e =
        rw e (two-lays A.table B.table (letters_in A) (letters_in B) x.row x.letter a up C.table _ (letters_in C) y.row y.letter b refl)
