-- Reading the writes of a letter. Assumes nothing.
use mathlib.Core.Path.{◌≡◌, refl, sym, ◌∙◌, ap, ap₂, subst}
use mathlib.Core.Bool.{Bool, true, false, not}
use mathlib.Core.List.{List, [], ◌∷◌, ◌++◌}
use Prim.Native.Nat.{ℕ, ◌+◌, ◌-◌, ◌^◌, ◌<◌, ◌≤◌}
use native.Mathlib.Omega.{arith}
use borrow.Author.Tests.{le-leb, lt-leb, ne_eqb, eq-eqb}
use lib.Dec.{leb}
use lib.Pow.{pow_pos}
use lib.ListN.{length, length-append}
use Rattle.meaning.specs.Expression.{Write, from_wire, from_number}
use Rattle.meaning.specs.Answers.{Answer, refused, byte}
use Rattle.meaning.specs.Reading.{Expect, go, fault, sign, step, choose, unless, at_token, if_number, write_store, write_value, write_more}
use Rattle.meaning.specs.Names.{Names, Program}
use Rattle.std.specs.Prelude.{Result, Ok, Err}
use Rattle.rules.specs.declared.tokens.Misread.{Misread}
use Rattle.rules.specs.declared.writes.Written.{Written}
use Rattle.rules.specs.Misreads.{fault_in, at_in, or_in}
use Rattle.rules.specs.Tasks.{WritesRead}
use Rattle.rules.proofs.Misreads as refusals
use Rattle.lexer.specs.declared.Token.{Token as Seen}
use Rattle.lexer.specs.declared.Kind.TheVariants as kind
use Rattle.lexer.specs.declared.Sign.TheVariants as signs
use Rattle.rules.specs.Seen.{seen, Sees}
use Rattle.words.specs.Words.{part0, part1}
use Rattle.rules.specs.Cells.{at, Link, link, Links, write_link, writes_on, Cells, Declared}
use Rattle.rules.specs.Picks.{Picks}
use Rattle.rules.specs.Reads.{read_from, Unless, fine, faulted, Past, Behind}
use Rattle.rules.specs.Conditions.{Room, Linked, behind}
use Rattle.rules.specs.Tasks.{Gains, Fails, Task, WritesAre, Letter, AnyLetter, Writing, behind_write, behind_letter, Writes, RestWritten, AllWritten}
use Rattle.rules.specs.Written.{by_wire, by_written}
use Rattle.rules.proofs.Stepping.{well, ill, wrong, right, yes, no, since, past, inside-text, past-place, on_step, is-on, is-off, number_is, no_number}
use Rattle.rules.proofs.Kept.{links-kept, cells-kept}
use Rattle.rules.proofs.LiteralSteps.{link-spent, only_stores, only-inputs, picked-store, picked-input}
use Rattle.rules.proofs.TaskLaws.{room-on, room_after, task-fails, task-from, task-then}
use Rattle.rules.proofs.Put.{extends-refl}

-- ---- one write more

writes-append : (xs : List Link) (ws : List Write) (w : Write) → writes_on xs (ws ++ (w ∷ [])) ≡ write_link w ∷ writes_on xs ws
unfolding writes_on
writes-append xs [] w = refl
writes-append xs (v ∷ ws) w = writes-append (write_link v ∷ xs) ws w

pub write-added : (P : List ℕ) (c n i free m j : ℕ) (Q : List ℕ) (w : Write) (x : Link) (ws : List Write) → write_link w ≡ x → n ≤ 1
    → WritesAre P c n i ws → Linked P c n i x free m j Q → WritesAre Q free m j (ws ++ (w ∷ []))
unfolding Links
write-added P c n i free m j Q w x ws e l a k =
    let (cell, back) = k.cell l in
    let s = length-append ws (w ∷ []) in
    record {
      count = omega (arith, k.count, a.count);
      few = omega (arith, a.count);
      links = subst (Links Q free j) (sym (writes-append [] ws w ∙ ap (λ z. z ∷ writes_on [] ws) e))
          (cell, subst (λ z. Links Q free z (writes_on [] ws)) (sym back) (links-kept P c Q free k.extends i (writes_on [] ws) a.links));
      low = k.low;
    }

pub writing-declared : {text P : List ℕ} {pos c h n i : ℕ} → Writing text P pos c h n i → Declared text P h
writing-declared {c = c} g = let r = g.room in let (ns, k) = g.names in (c, ns.declared, omega (arith, r.fits, r.inside), k)

pub writing-on : {text P : List ℕ} {pos next c h n i : ℕ} → Writing text P pos c h n i → pos ≤ next → next ≤ length text → Writing text P next c h n i
writing-on g l m = record { room = room-on g.room l m; names = g.names; writes = g.writes }

pub write-room : {text P : List ℕ} {pos c h n i : ℕ} → Writing text P pos c h n i → (b : ℕ) → pos < b → b ≤ length text → (c + 2 ≤ length P) × (length P ≤ 65535) × (i < c) × (n ≤ 3)
write-room g b l m = let r = g.room in let (ws, a) = g.writes in (omega (arith, r.fits), r.small, a.low, omega (arith, a.count, a.few))

-- the write's token was judged, its link is written, and `;` follows
module _ (text P : List ℕ) (pos at c h n i : ℕ) (from : Names → Letter → List Write → Answer Program) (free m j : ℕ) (Q : List ℕ) (x : Link)
    (k : Linked P c n i x free m j Q) (one : n ≤ 1) (f next : ℕ) (end : Behind text at f next (sign 0)) (l : pos < at)
    (w : (ns : Names) → Cells text P c h ns.declared → (w : Write) × (write_link w ≡ x)
    × ((y : Letter) (ws : List Write) → from ns y ws ≡ read_from text at ns (sign 0 (write_more y.within y.literals (ws ++ (w ∷ [])))))) where
  pub write-ended : Writes text P pos c h n i from f next free m j Q
  unfolding Behind
  write-ended = record { long = k.extends.long; outcome = by end }
    where
      by : Unless f (Past text at next × ((ns : Names) (y : Expect) → read_from text at ns (sign 0 y) ≡ read_from text next ns y)) ((ns : Names) (y : Expect) → read_from text at ns (sign 0 y) ≡ refused f (byte next))
          → Unless f (Gains text P pos c h (List Write) (List Write) Letter (WritesAre P c n i) (WritesAre Q free m j) AnyLetter from behind_write next free Q)
          (Fails text P c h (List Write) Letter (WritesAre P c n i) AnyLetter from f next)
      by (fine z (p, on)) =
          fine z (record {
            extends = k.extends;
            spent = link-spent text pos c next free (omega arith) p.1 (omega (arith, k.few));
            reads = λ ns d ws a. let (v, e, q) = w ns d in (ws ++ (v ∷ []), write-added P c n i free m j Q v x ws e one a k, λ y g. q y ws ∙ on ns _);
          })
      by (faulted b on) = faulted b (λ ns d ws a y g. let (v, e, q) = w ns d in q y ws ∙ on ns _)

-- ---- wires are written

module _ (text P : List ℕ) (c h pos : ℕ) (t : Seen) (sees : Sees text pos t) (n i s width f cell : ℕ) (pick : Picks text P h t 0 f cell) (g : Writing text P t.place c h n i) where
  abbrev wires : Names → Letter → List Write → Answer Program
  wires = by_wire text t s width

  pub wire-fails : (f ≡ 0 → ⊥) → Writes text P t.place c h n i wires f t.place c n i P
  unfolding Picks
  wire-fails z =
      task-fails text P t.place c h (List Write) (List Write) Letter (WritesAre P c n i) (WritesAre P c n i) AnyLetter wires behind_write f t.place c P refl z (λ ns k ws a x o.
      ap (behind text t) (ill (pick c ns k) z _ _ _ _ (only-inputs (seen text t) _)))

  pub wires-inside : f ≡ 0 → (cell + 1 < length P) × (t.place < t.after)
  wires-inside z =
      let (ns, k) = g.names in
      let (lo, w, st, q, on) = picked-input text P c h pos t sees f cell pick z ns k in
      let r = g.room in
      (omega (arith, st.used, r.fits, r.inside), past-place text pos t sees q)

  module _ (z : f ≡ 0) (wide : ℕ) (is : wide ≡ part1 (at P (cell + 1))) where
    pub wire-unequal : (wide ≡ width → ⊥) → Writes text P t.place c h n i wires 6 t.place c n i P
    unfolding seen
    wire-unequal u =
        task-fails text P t.place c h (List Write) (List Write) Letter (WritesAre P c n i) (WritesAre P c n i) AnyLetter wires behind_write 6 t.place c P refl (λ y. omega arith) (λ ns k ws a x o.
        let (lo, w, st, q, on) = picked-input text P c h pos t sees f cell pick z ns k in
        ap (behind text t) (on _ _ _ _ ∙ wrong _ _ _ _ (ap not (ne_eqb w width (λ y. u (is ∙ st.wide ∙ y))))))

    pub wire_written : wide ≡ width → (low free m j : ℕ) (Q : List ℕ) → low ≡ part0 (at P (cell + 1)) → Linked P c n i (link s low width 0) free m j Q → n ≤ 1
        → (e next : ℕ) → Behind text t.after e next (sign 0) → Writes text P t.place c h n i wires e next free m j Q
    unfolding seen
    wire_written u low free m j Q el k one e next end =
        write-ended text P t.place t.after c h n i wires free m j Q (link s low width 0) k one e next end (wires-inside z).1 (λ ns d.
        let (lo, w, st, q, on) = picked-input text P c h pos t sees f cell pick z ns d in (
          from_wire s lo w,
          ap₂ (λ (a b : ℕ). link s a b 0) (sym st.low ∙ sym el) (sym st.wide ∙ sym is ∙ u),
          λ y ws.
              ap (behind text t) (on _ _ _ _ ∙ right _ _ _ _ (ap not (eq-eqb w width (sym st.wide ∙ sym is ∙ u)))),
        ))

-- ---- a number is written

module _ (text P : List ℕ) (c h pos : ℕ) (t : Seen) (sees : Sees text pos t) (n i s width : ℕ) (inside : pos ≤ length text) where
  abbrev values : Names → Letter → List Write → Answer Program
  values ns x ws = read_from text pos ns (write_value x.within x.literals ws s width)

  pub value-wires : ((v : ℕ) → t.kind ≡ kind.Number v → ⊥) → (f next free m j : ℕ) (Q : List ℕ) → Writes text P t.place c h n i (by_wire text t s width) f next free m j Q → Writes text P pos c h n i values f next free m j Q
  unfolding step
  value-wires q f next free m j Q =
      task-from text P pos c h (List Write) (List Write) Letter (WritesAre P c n i) (WritesAre Q free m j) AnyLetter values behind_write (by_wire text t s width) t.place f next free Q (since text pos t sees inside) (λ ns k ws a x o.
      on_step text pos t sees ns (write_value x.within x.literals ws s width) _ ((no_number text pos t sees q _).1 _))

  module _ (v : ℕ) (q : t.kind ≡ kind.Number v) (top : ℕ) (is : top ≡ 2 ^ width - 1) where
    value-step : (ns : Names) (x : Letter) (ws : List Write) (b : Bool) → leb (2 ^ width) v ≡ b
        → values ns x ws ≡ behind text t (choose b (fault 6 t.place) (go ns (sign 0 (write_more x.within x.literals (ws ++ (from_number s v ∷ []))))))
    unfolding step if_number unless at_token
    value-step ns x ws b e =
        on_step text pos t sees ns (write_value x.within x.literals ws s width) _
        (ap (step ns (write_value x.within x.literals ws s width)) (number_is text pos t sees q)
        ∙ ap (λ (d : Bool). choose d (fault 6 t.place) (go ns (sign 0 (write_more x.within x.literals (ws ++ (from_number s v ∷ [])))))) e)

    pub value-large : top < v → Writes text P pos c h n i values 6 t.place c n i P
    unfolding choose
    value-large l =
        task-fails text P pos c h (List Write) (List Write) Letter (WritesAre P c n i) (WritesAre P c n i) AnyLetter values behind_write 6 t.place c P refl (λ y. omega arith) (λ ns k ws a x o.
        value-step ns x ws true (le-leb (2 ^ width) v (omega arith)))

    pub value_written : v ≤ top → (free m j : ℕ) (Q : List ℕ) → Linked P c n i (link s 0 0 v) free m j Q → n ≤ 1
        → (e next : ℕ) → Behind text t.after e next (sign 0) → Writes text P pos c h n i values e next free m j Q
    unfolding choose
    value_written l free m j Q k one e next end =
        let p = past text pos t sees q tt in
        let small : v < 2 ^ width = let o = pow_pos width in omega arith in
        write-ended text P pos t.after c h n i values free m j Q (link s 0 0 v) k one e next end p.0 (λ ns d.
        (from_number s v, refl, λ y ws. value-step ns y ws false (lt-leb (2 ^ width) v small)))

-- ---- one write

module _ (text P : List ℕ) (c h pos : ℕ) (t : Seen) (sees : Sees text pos t) (n i f cell : ℕ) (pick : Picks text P h t 1 f cell) (g : Writing text P t.place c h n i) where
  abbrev ones : Names → Letter → List Write → Answer Program
  ones = by_written text t

  pub one-fails : (f ≡ 0 → ⊥) → Writes text P t.place c h n i ones f t.place c n i P
  unfolding Picks
  one-fails z =
      task-fails text P t.place c h (List Write) (List Write) Letter (WritesAre P c n i) (WritesAre P c n i) AnyLetter ones behind_write f t.place c P refl z (λ ns k ws a x o.
      ap (behind text t) (ill (pick c ns k) z _ _ _ _ (only_stores (seen text t) _)))

  pub one_inside : f ≡ 0 → (cell + 1 < length P) × (t.place < t.after) × (part0 (at P (cell + 1)) < 16) × (part1 (at P (cell + 1)) ≤ 64)
  one_inside z =
      let (ns, k) = g.names in
      let (s, w, st, q, on) = picked-store text P c h pos t sees f cell pick z ns k in
      let r = g.room in
      (omega (arith, st.used, r.fits, r.inside), past-place text pos t sees q, rw st.own st.few, rw st.wide st.inside)

  module _ (z : f ≡ 0) where
    pub one-crowded : 2 ≤ n → Writes text P t.place c h n i ones 7 t.place c n i P
    unfolding seen
    one-crowded l =
        task-fails text P t.place c h (List Write) (List Write) Letter (WritesAre P c n i) (WritesAre P c n i) AnyLetter ones behind_write 7 t.place c P refl (λ y. omega arith) (λ ns k ws a x o.
        let (s, w, st, q, on) = picked-store text P c h pos t sees f cell pick z ns k in
        ap (behind text t) (on _ _ _ _ ∙ wrong _ _ _ _ (le-leb 2 (length ws) (omega (arith, a.count)))))

    -- the arrow is expected
    arrow : n ≤ 1 → (ns : Names) → Cells text P c h ns.declared → (x : Letter) (ws : List Write) → WritesAre P c n i ws
        → ones ns x ws ≡ read_from text t.after ns (sign 17 (write_value x.within x.literals ws (part0 (at P (cell + 1))) (part1 (at P (cell + 1)))))
    unfolding seen
    arrow l ns k x ws a =
        let (s, w, st, q, on) = picked-store text P c h pos t sees f cell pick z ns k in
        ap (behind text t) (on _ _ _ _ ∙ right _ _ _ _ (lt-leb 2 (length ws) (omega (arith, a.count))))
        ∙ ap₂ (λ (u v : ℕ). read_from text t.after ns (sign 17 (write_value x.within x.literals ws u v))) (sym st.own) (sym st.wide)

    module _ (l : n ≤ 1) (b next : ℕ) (sg : Behind text t.after b next (sign 17)) where
      pub one-no-arrow : (b ≡ 0 → ⊥) → Writes text P t.place c h n i ones b next c n i P
      unfolding Behind
      one-no-arrow u =
          task-fails text P t.place c h (List Write) (List Write) Letter (WritesAre P c n i) (WritesAre P c n i) AnyLetter ones behind_write b next c P refl u (λ ns k ws a x o.
          arrow l ns k x ws a ∙ ill sg u ns _)

      pub one-past : b ≡ 0 → t.place < next × (next ≤ length text)
      unfolding Behind
      one-past u = let p = (well sg u).0 in let (k, q, v, w) = one_inside z in (omega arith, p.1)

      pub one_written : b ≡ 0 → (s w : ℕ) → s ≡ part0 (at P (cell + 1)) → w ≡ part1 (at P (cell + 1)) → (e last free m j : ℕ) (Q : List ℕ)
          → Writes text P next c h n i (λ ns x ws. read_from text next ns (write_value x.within x.literals ws s w)) e last free m j Q → Writes text P t.place c h n i ones e last free m j Q
      unfolding Behind
      one_written u s w es ew e last free m j Q =
          task-from text P t.place c h (List Write) (List Write) Letter (WritesAre P c n i) (WritesAre Q free m j) AnyLetter ones behind_write
          (λ ns x ws. read_from text next ns (write_value x.within x.literals ws s w)) next e last free Q (let p = one-past u in omega arith) (λ ns k ws a x o.
          arrow l ns k x ws a ∙ (well sg u).1 ns _ ∙ ap₂ (λ (p q : ℕ). read_from text next ns (write_value x.within x.literals ws p q)) (sym es) (sym ew))

-- ---- the writes that follow

module _ (text P : List ℕ) (pos c h n i : ℕ) where
  abbrev rest : Names → Letter → List Write → Answer Program
  rest ns x ws = read_from text pos ns (behind_write x ws)

  -- writes that are read so far
  abbrev pub So : (next free m j : ℕ) → List ℕ → Type 0
  So next free m j Q = Gains text P pos c h (List Write) (List Write) Letter (WritesAre P c n i) (WritesAre Q free m j) AnyLetter rest behind_write next free Q

  pub so-none : Writing text P pos c h n i → So pos c n i P
  so-none g =
      record { extends = extends-refl P c; spent = record { since = omega arith; inside = g.room.inside; few = omega arith }; reads = λ ns k ws a. (ws, a, λ x o. refl) }

  module _ (next free m j : ℕ) (Q : List ℕ) (so : So next free m j Q) where
    pub so-given : Writing text P pos c h n i → (at : ℕ) → next ≤ at → at ≤ length text → Writing text Q at free h m j
    so-given g at l o =
        let (ns, k) = g.names in
        let (ws, a) = g.writes in
        let (vs, b, on) = so.reads ns k ws a in
        record { room = room-on (room_after g.room so.extends so.spent) l o; names = (ns, cells-kept P c Q free so.extends text h ns.declared k); writes = (vs, b) }

    module _ (t : Seen) (sees : Sees text next t) where
      pub so-closed : t.kind ≡ kind.Sign signs.RightBrace → RestWritten text P pos c h n i 0 t.after free m j Q
      unfolding step
      so-closed q =
          let p = past text next t sees q tt in
          let s = so.spent in
          record {
            long = so.extends.long;
            outcome = fine refl (record {
              extends = so.extends;
              spent = record { since = omega (arith, s.since); inside = p.1; few = omega (arith, s.few) };
              reads = λ ns k ws a.
                  let (vs, b, on) = so.reads ns k ws a in
                  (vs, b, λ x o. on x o ∙ on_step text next t sees ns (behind_write x vs) _ (yes _ _ _ (is-on text next t sees signs.RightBrace q)));
            });
          }

      pub so-next : next ≤ length text → (t.kind ≡ kind.Sign signs.RightBrace → ⊥) → (f last end u v : ℕ) (R : List ℕ) → Writes text Q t.place free h m j (by_written text t) f last end u v R
          → Task text P pos c h (List Write) (List Write) Letter (WritesAre P c n i) (WritesAre R end u v) AnyLetter rest behind_write f last end R
      unfolding step
      so-next l q f last end u v R w =
          task-then text P pos c h (List Write) (List Write) (List Write) Letter Letter (WritesAre P c n i) (WritesAre Q free m j) (WritesAre R end u v) AnyLetter AnyLetter
          rest behind_write behind_write next free Q so (by_written text t) behind_write (λ x. x) (λ x o. o) t.place (since text next t sees l)
          (λ ns k x o ws a. on_step text next t sees ns (behind_write x ws) _ (no _ _ _ (is-off text next t sees signs.RightBrace q))) f last end R w (λ ns x o ws. refl)

-- a refusal is one whatever would have followed
pub fails-too : (text P : List ℕ) (pos c h : ℕ) (S T U X : Type 0) (Before : S → Type 0) (After : T → Type 0) (Then : U → Type 0) (good : X → Type 0) (from : Names → X → S → Answer Program)
    (to : X → T → Expect) (on : X → U → Expect) (f next free end : ℕ) (Q : List ℕ)
    → Task text P pos c h S T X Before After good from to f next free Q → (f ≡ 0 → ⊥) → Task text P pos c h S U X Before Then good from on f next end Q
fails-too text P pos c h S T U X Before After Then good from to on f next free end Q t n = record { long = t.long; outcome = faulted n (ill t.outcome n) }

-- ---- all writes

pub none_yet : (P : List ℕ) (c : ℕ) → 1 ≤ c → WritesAre P c 0 0 []
unfolding Links writes_on
none_yet P c l = record { count = refl; few = omega arith; links = refl; low = l }

module _ (text P : List ℕ) (pos c h : ℕ) (t : Seen) (sees : Sees text pos t) (room : Room text P pos c) (names : (ns : Names) × Cells text P c h ns.declared) where
  pub all-given : Writing text P t.place c h 0 0
  all-given =
      record { room = room-on room (since text pos t sees room.inside) (let p = inside-text text pos t sees in omega arith); names = names; writes = ([], none_yet P c room.some) }

  module _ (f next free m j : ℕ) (Q : List ℕ) (w : Writes text P t.place c h 0 0 (by_written text t) f next free m j Q) where
    -- the first write
    first : Task text P pos c h (Unit {0}) (List Write) Letter (λ s. Unit {0}) (WritesAre Q free m j) AnyLetter (λ ns x s. read_from text pos ns (write_store x.within x.literals [])) behind_write f next free Q
    unfolding step
    first =
        record { long = w.long; outcome = by w.outcome }
      where
        on : (ns : Names) (x : Letter) → read_from text pos ns (write_store x.within x.literals []) ≡ by_written text t ns x []
        on ns x = on_step text pos t sees ns (write_store x.within x.literals []) _ refl

        by : Unless f (Gains text P t.place c h (List Write) (List Write) Letter (WritesAre P c 0 0) (WritesAre Q free m j) AnyLetter (by_written text t) behind_write next free Q)
            (Fails text P c h (List Write) Letter (WritesAre P c 0 0) AnyLetter (by_written text t) f next)
            → Unless f (Gains text P pos c h (Unit {0}) (List Write) Letter (λ s. Unit {0}) (WritesAre Q free m j) AnyLetter (λ ns x s. read_from text pos ns (write_store x.within x.literals [])) behind_write next free Q)
            (Fails text P c h (Unit {0}) Letter (λ s. Unit {0}) AnyLetter (λ ns x s. read_from text pos ns (write_store x.within x.literals [])) f next)
        by (fine z g) =
            let l = since text pos t sees room.inside in
            fine z (record {
              extends = g.extends;
              spent = let s = g.spent in record { since = omega (arith, s.since); inside = s.inside; few = omega (arith, s.few) };
              reads = λ ns k s b. let (vs, a, q) = g.reads ns k [] (none_yet P c room.some) in (vs, a, λ x o. on ns x ∙ q x o);
            })
        by (faulted n g) = faulted n (λ ns k s b x o. on ns x ∙ g ns k [] (none_yet P c room.some) x o)

    pub all-fails : (f ≡ 0 → ⊥) → AllWritten text P pos c h f next free m j Q
    all-fails n = fails-too text P pos c h (Unit {0}) (List Write) (List Write) Letter (λ s. Unit {0}) (WritesAre Q free m j) (WritesAre Q free m j) AnyLetter _ behind_write behind_letter f next free free Q first n

    pub all_more : f ≡ 0 → Writing text Q next free h m j
    all_more z =
        let g = well first.outcome z in
        let (ns, k) = names in
        let (vs, b, on) = g.reads ns k tt tt in
        record { room = room_after room g.extends g.spent; names = (ns, cells-kept P c Q free g.extends text h ns.declared k); writes = (vs, b) }

    pub all-written : f ≡ 0 → (e last end u v : ℕ) (R : List ℕ) → RestWritten text Q next free h m j e last end u v R → AllWritten text P pos c h e last end u v R
    all-written z e last end u v R r =
        task-then text P pos c h (Unit {0}) (List Write) (List Write) Letter Letter (λ s. Unit {0}) (WritesAre Q free m j) (WritesAre R end u v) AnyLetter AnyLetter
        (λ ns x s. read_from text pos ns (write_store x.within x.literals [])) behind_write behind_letter next free Q (well first.outcome z)
        (λ ns x ws. read_from text next ns (behind_write x ws)) behind_letter (λ x. x) (λ x o. o) next (omega arith) (λ ns k x o ws a. refl) e last end R r (λ ns x o ws. refl)

-- a refusal is the same whatever stands for what it has not
pub all-from : (text P : List ℕ) (pos c h d n i : ℕ) (r : Result Written Misread) (Q : List ℕ)
    → AllWritten text P pos c h (fault_in r) (at_in (λ w. w.at) r) (or_in (λ w. w.free) d r) (or_in (λ w. w.count) n r) (or_in (λ w. w.link) i r) Q → WritesRead text P pos c h r Q
all-from text P pos c h d n i (Ok w) Q a = a
all-from text P pos c h d n i (Err e) Q a = record { long = a.long; outcome = faulted (refusals.some e.why) (ill a.outcome (refusals.some e.why)) }
