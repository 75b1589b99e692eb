-- A text is opened as the meaning says: from reading and from its monitors. Assumes nothing.
use mathlib.Core.Path.{◌≡◌, refl, sym, ◌∙◌, ap, ap₂}
use mathlib.Core.Bool.{Bool, false, cond}
use mathlib.Core.List.{List, map}
use Prim.Native.Nat.{ℕ, ◌<◌, ◌≤◌}
use native.Mathlib.Omega.{arith}
use borrow.Author.Tests.{le-ltb, lt-ltb}
use lib.ListN.{length, length-map, take, replicate, length-replicate}
use lib.Seq.{sets}
use Rattle.lexer.specs.Tokens.{tokens, rule_words}
use Rattle.meaning.specs.Answers as meaning
use Rattle.meaning.specs.Lists.{each, total}
use Rattle.meaning.specs.Expression.{Exp, letters, size, renumbered}
use Rattle.meaning.specs.Reading.{statement, read_on, read}
use Rattle.meaning.specs.Names.{no_names}
use Rattle.meaning.specs.Opening.{Opened, counts_of, as_opened, open_program, and_open, open_text}
use Rattle.meaning.proofs.Openings.{few_letters as letters-few, rows_fit}
use Rattle.shape.specs.Walk.{kinds}
use Rattle.windows.specs.Windows.{opened_windows}
use Rattle.std.specs.Prelude.{Result, Ok, Err}
use Rattle.rules.specs.declared.tokens.Misread.{Misread}
use Rattle.rules.specs.declared.Watch.{Watch}
use Rattle.rules.specs.declared.Counts.{Counts}
use Rattle.rules.specs.declared.Refused.{Refused}
use Rattle.rules.specs.declared.Refused.TheVariants.{AtByte, AtLetter}
use Rattle.rules.specs.declared.lay.Tables.{Tables}
use Rattle.rules.specs.declared.opening.Starts.{Starts}
use Rattle.refusals.specs.declared.Refusal.TheVariants.{Overlong}
use Rattle.rules.specs.Monitors.{MonitorsAre, SomeMonitors, FewLetters, Arrays, Lists, lists_in, with_monitors, AllStored, refused_as, OpenedBy, by_rules}
use Rattle.rules.specs.Statements.{Says, TextRead}
use Rattle.rules.specs.Counted.{limit_words, masks_of}
use Rattle.rules.specs.Watches.{no_lists, letters_from, watch_by, empty_watch, counted_of, windows_of, watch_of, shown_outcome}
use Rattle.rules.proofs.AllMonitors.{program-ok, program-refused}
use Rattle.rules.proofs.Starting.{tables-renumbered}
use Rattle.rules.proofs.LimitNumbers.{small-limits}
use Rattle.rules.proofs.LimitTables.{counted_same, windows-same}

-- the answer and the watch are those of what opening the text comes to
pub record Right (text : List ℕ) (o : Result Counts Refused) (w : Watch) : Type 0 where
  pub outcome : shown_outcome o ≡ counts_of (open_text text)
  pub watch : w ≡ watch_of (open_text text)

by_answer : (text : List ℕ) (a : meaning.Answer Opened) → open_text text ≡ a → (o : Result Counts Refused) (w : Watch) → shown_outcome o ≡ counts_of a → w ≡ watch_of a → Right text o w
by_answer text a e o w p q = record { outcome = p ∙ ap counts_of (sym e); watch = q ∙ ap watch_of (sym e) }

-- a refusal, and a watch that is left as it was
refuses : (text : List ℕ) (e : Refused) → open_text text ≡ refused_as e → (w : Watch) → w ≡ empty_watch → Right text (Err e) w
unfolding counts_of watch_of
refuses text (AtByte n p) d w q = by_answer text (refused_as (AtByte n p)) d (Err (AtByte n p)) w refl q
refuses text (AtLetter n m l) d w q = by_answer text (refused_as (AtLetter n m l)) d (Err (AtLetter n m l)) w refl q

-- an overlong text
pub right-long : (text : List ℕ) → 16384 < length text → (w : Watch) → w ≡ empty_watch → Right text (Err (AtByte Overlong 0)) w
unfolding open_text read
right-long text l w q =
    refuses text (AtByte Overlong 0)
    (ap (λ (b : Bool). and_open (cond b (meaning.refused 1 (meaning.byte 0)) (read_on no_names statement (tokens rule_words text)))) (lt-ltb 16384 (length text) l)) w q

-- a watch by its parts
raw : Lists → (rows letters monitors wires stores : ℕ) → (values marks places counted windows : List ℕ) → Watch
raw A r l n w s k m p C W =
    record {
      table = A.table;
      look = A.letters_of.look;
      want = A.letters_of.want;
      held = A.letters_of.held;
      links = A.letters_of.links;
      numbers = A.letters_of.numbers;
      places = p;
      own = A.own;
      firsts = A.firsts;
      rows = r;
      letters = l;
      monitors = n;
      wires = w;
      stores = s;
      before = 0;
      values = k;
      marks = m;
      ticks = 0;
      totals = replicate 256 0;
      stopped = false;
      counted = C;
      windows = W;
    }

same-watch : (A B : Lists) (r r' l l' n n' w w' s : ℕ) (k m p C C' W W' vs : List ℕ) → A ≡ B → r ≡ r' → l ≡ l' → n ≡ n' → w ≡ w' → s ≡ length vs
    → k ≡ sets (replicate 16 0) 0 vs → m ≡ sets (replicate 288 0) 256 (replicate n' 1)
    → p ≡ sets (replicate 256 0) 0 (letters_from 0 (kinds (take r A.table)))
    → C ≡ C' → W ≡ W' → raw A r l n w s k m p C W ≡ watch_by B r' l' n' w' vs C' W'
unfolding raw
same-watch A B r r' l l' n n' w w' s k m p C C' W W' vs a b c d e f g h i x y = rw (i, a, b, c, d, e, f, g, h, x, y)

module _ (text : List ℕ) (short : length text ≤ 16384) (Q S M : List ℕ) where
  opens : open_text text ≡ and_open (read_on no_names statement (tokens rule_words text))
  unfolding open_text read
  opens = ap (λ (b : Bool). and_open (cond b (meaning.refused 1 (meaning.byte 0)) (read_on no_names statement (tokens rule_words text)))) (le-ltb 16384 (length text) short)

  pub right-byte : (e : Misread) → TextRead text (Err e) Q S M → (w : Watch) → w ≡ empty_watch → Right text (Err (AtByte e.why e.place)) w
  unfolding TextRead
  right-byte e t w q = refuses text (AtByte e.why e.place) (opens ∙ ap and_open t) w q

  module _ (free wires stores limits count : ℕ) (t : TextRead text (Ok (record { free = free; wires = wires; stores = stores; limits = limits; count = count })) Q S M) where
    pub says : Says text free wires stores limits count Q S M
    unfolding TextRead
    says = t

    reads-text : read text ≡ meaning.value says.program
    unfolding read
    reads-text = ap (λ (b : Bool). cond b (meaning.refused 1 (meaning.byte 0)) (read_on no_names statement (tokens rule_words text))) (le-ltb 16384 (length text) short) ∙ says.reads

    pub zero-arrays : Arrays no_lists.table no_lists.letters_of
    zero-arrays =
        let a = length-replicate {A = ℕ} 1024 0 in
        let b = length-replicate {A = ℕ} 256 0 in
        record { table = a; looks = b; wants = b; helds = b; links = a; numbers = a }

    -- the cells of the monitors are the first of a list of 32
    pub listed : length M ≡ 32 → count ≤ length M
    listed h = omega (arith, says.monitors.few, h)

    pub some-monitors : SomeMonitors Q M count
    some-monitors = (free, says.program.monitors, says.monitors)

    pub right-letter : (A : Lists) (e : Refused) → ((c : ℕ) (ms : List Exp) → MonitorsAre Q c M count ms → OpenedBy (by_rules ms) ms no_lists A (Err e))
        → (w : Watch) → w ≡ empty_watch → Right text (Err e) w
    right-letter A e by w q =
        refuses text e (opens ∙ ap and_open says.reads ∙ program-refused says.program no_lists A e (by free says.program.monitors says.monitors)) w q

    module _ (T : Tables) (B : Starts) (n : Counts) (by : (c : ℕ) (ms : List Exp) → MonitorsAre Q c M count ms → OpenedBy (by_rules ms) ms no_lists (lists_in T B) (Ok n)) where
      opened : (open_program says.program ≡ meaning.value (as_opened says.program)) × AllStored says.program.monitors no_lists (lists_in T B) n.rows n.letters
      opened = program-ok says.program no_lists (lists_in T B) n (by free says.program.monitors says.monitors)

      pub rows-room : n.rows ≤ 1024
      unfolding as_opened
      rows-room =
          let (e, s) = opened in
          omega (arith, s.row_count, rows_fit text (as_opened says.program) (opens ∙ ap and_open says.reads ∙ e))

      letters-fit : total size says.program.monitors ≤ 256
      unfolding open_program
      letters-fit = (letters-few says.program.monitors _ _ opened.0).0

      pub few_letters : FewLetters Q M count
      few_letters = (free, says.program.monitors, says.monitors, letters-fit)

      pub right-open : (W : Watch) → W ≡ empty_watch → (ws : List ℕ) → ws ≡ limit_words S limits
          → (values marks places counted windows : List ℕ) → values ≡ sets (replicate 16 0) 0 (take stores S) → marks ≡ sets (replicate 288 0) 256 (replicate count 1)
          → places ≡ sets (replicate 256 0) 0 (letters_from 0 (kinds (take n.rows T.table)))
          → ((c : ℕ) (ms : List Exp) → MonitorsAre Q c M count ms → total size ms ≤ 256
          → counted ≡ sets (replicate 256 0) 0 (each ms (λ m. masks_of ws (letters m))))
          → (bounds : List ℕ) → bounds ≡ sets (replicate 8 0) 0 ws → windows ≡ opened_windows bounds limits
          → Right text (Ok n) (record {
            table = T.table;
            look = T.look;
            want = T.want;
            held = T.held;
            links = T.links;
            numbers = T.numbers;
            places = places;
            own = B.own;
            firsts = B.firsts;
            rows = n.rows;
            letters = n.letters;
            monitors = count;
            wires = wires;
            stores = stores;
            before = W.before;
            values = values;
            marks = marks;
            ticks = W.ticks;
            totals = W.totals;
            stopped = W.stopped;
            counted = counted;
            windows = windows;
          })
      unfolding watch_of counted_of windows_of counts_of as_opened raw
      right-open W v ws u values marks places counted windows k m x g bounds i h =
          let (e, s) = opened in
          let p = says.program in
          let l : count ≡ length (map (renumbered 0) p.monitors) = says.monitors.number ∙ sym (length-map p.monitors (renumbered 0)) in
          rw v (by_answer text (meaning.value (as_opened p)) (opens ∙ ap and_open says.reads ∙ e) _ _
          (ap₂ (λ (a b : ℕ). shown_outcome (Ok (record { rows = a; letters = b }))) s.row_count s.letter_count)
          (same-watch (lists_in T B) (with_monitors no_lists 0 0 0 (map (renumbered 0) p.monitors)) n.rows _ n.letters _ count _ wires _ stores values marks places counted _ windows _ p.initial
          (s.tables ∙ sym (tables-renumbered no_lists 0 0 0 p.monitors)) s.row_count s.letter_count l says.width says.number
          (k ∙ ap (sets (replicate 16 0) 0) says.values) (m ∙ ap (λ (q : ℕ). sets (replicate 288 0) 256 (replicate q 1)) l) x
          (g free p.monitors says.monitors letters-fit ∙ ap (λ (vs : List ℕ). sets (replicate 256 0) 0 (each p.monitors (λ m. masks_of vs (letters m)))) u ∙ counted_same p.monitors p.limits (small-limits text p reads-text) (limit_words S limits) says.bounds)
          (h ∙ ap (λ (L : List ℕ). opened_windows L limits) (i ∙ ap (sets (replicate 8 0) 0) u) ∙ windows-same p.limits limits (limit_words S limits) says.limited says.few_limits says.bounds)))
