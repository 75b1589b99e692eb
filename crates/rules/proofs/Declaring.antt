-- A declaration more: its cell, and what is known of the names then. Assumes nothing.
use mathlib.Core.Path.{◌≡◌, refl, sym, ◌∙◌, ap, subst}
use mathlib.Core.Bool.{Bool, true, false, ◌||◌}
use mathlib.Core.List.{List, [], ◌∷◌, ◌++◌}
use Prim.Native.Nat.{ℕ, suc, ◌+◌, ◌-◌, ◌^◌, ◌<◌, ◌≤◌}
use native.Mathlib.Omega.{arith}
use native.Mathlib.Numerals.{add-one}
use borrow.Author.Tests.{le-leb, lt-leb, le-ltb, lt-ltb, leb-false}
use lib.Dec.{leb, ltb}
use lib.Pow.{pow_pos}
use lib.ListN.{length, take, drop, set, length-set, length-append}
use lib.Seq.{take-suc-set, drop-set-lt}
use Rattle.lexer.specs.Bytes.{Entry}
use Rattle.lexer.specs.Tokens.{Placed}
use Rattle.meaning.specs.Reading.{Expect, statement, sign, closing, input_name, input_more, input_high, store_name, store_more, store_high, store_first, go, new_name, step}
use Rattle.meaning.specs.Names.{Names, Meaning, with_name, new_input, new_store, declare}
use Rattle.rules.specs.NamesFound.{name_number}
use Rattle.rules.specs.declared.names.NameKind.{NameKind}
use Rattle.rules.specs.declared.names.NameKind.TheVariants.{Wire, Store, Defined, Production}
use Rattle.rules.specs.declared.declarations.Scope.{Scope}
use Rattle.rules.specs.Scopes.{DeclaredTold}
use Rattle.words.specs.Words.{quad, part0, part1, part2, part3}
use Rattle.rules.specs.Cells.{at, Means, Cells, Declared as SomeNames}
use Rattle.rules.specs.Reads.{read_from, fine, faulted, Behind, NumberRead}
use Rattle.rules.specs.Conditions.{Extends, Room}
use Rattle.rules.specs.Defined.{HeadAt}
use Rattle.rules.specs.Scopes.{Known, Ready, Refuses, Declares, NewAt, NameRead, NameWritten, Wide, WidthRead}
use Rattle.words.proofs.Quads.{quad-0, quad-1, quad-2, quad-3}
use Rattle.rules.proofs.Put.{put_both, put_first, put_second}
use Rattle.rules.proofs.Kept.{cells-kept}
use Rattle.rules.proofs.Stepping.{well, ill}
use Rattle.rules.proofs.OnNumber.{Numeric, number_past, number-most, number-refused, number-on}
use Rattle.rules.proofs.LiteralSteps.{link-spent}
use Rattle.rules.proofs.NewNames.{name-read, name-refused, name-on}
use Rattle.rules.proofs.Widths.{signed, width_is}

-- ---- a cell of two words

pub name-small : (k : NameKind) → name_number k < 65536
name-small Wire = omega arith
name-small Store = omega arith
name-small Defined = omega arith
name-small Production = omega arith

pub put-name : (P : List ℕ) (c kind last place size a b : ℕ) → c + 2 ≤ length P → kind < 65536 → last < 65536 → place < 65536 → size < 65536 → a < 65536 → b < 65536
    → NameWritten P c kind last place size a b (set (set P c (quad kind last place size)) (c + 1) (quad a b 0 0))
put-name P c kind last place size a b room k l p s m n =
    let head = put_first P c (quad kind last place size) (quad a b 0 0) room in
    let tail = put_second P c (quad kind last place size) (quad a b 0 0) room in
    record {
      extends = put_both P c (quad kind last place size) (quad a b 0 0) room;
      of = ap part0 head ∙ quad-0 kind last place size k;
      back = ap part1 head ∙ quad-1 kind last place size l;
      from = ap part2 head ∙ quad-2 kind last place size p;
      long = ap part3 head ∙ quad-3 kind last place size s;
      first = ap part0 tail ∙ quad-0 a b 0 0 m;
      second = ap part1 tail ∙ quad-1 a b 0 0 n;
    }

-- a name more, before those that there are, whatever it means and however long its cell is
pub cell-added : (text P : List ℕ) (c : ℕ) (Q : List ℕ) (h d last place size : ℕ) (es : List (Entry Meaning)) (m : Meaning) → 1 ≤ h → last < h → h < d → place + size ≤ length text
    → Cells text P c last es → Extends P c Q d → HeadAt Q h last place size → Means Q d h m → Cells text Q d h (with_name (take size (drop place text)) m es)
unfolding Cells
cell-added text P c Q h d last place size es m some low more inside k x w y = (
  some,
  more,
  record { inside = omega (arith, w.from, w.long); bytes = ap (λ (n : ℕ). take n (drop (part2 (at Q h)) text)) w.long ∙ ap (λ (n : ℕ). take size (drop n text)) w.from },
  y,
  omega (arith, w.back),
  subst (λ (j : ℕ). Cells text Q d j es) (sym w.back) (cells-kept P c Q d x text last es k),
)

pub name-added : (text P : List ℕ) (c kind last place size a b : ℕ) (Q : List ℕ) (es : List (Entry Meaning)) (m : Meaning) → 1 ≤ c → last < c → place + size ≤ length text
    → Cells text P c last es → NameWritten P c kind last place size a b Q → Means Q (c + 2) c m → Cells text Q (c + 2) c (with_name (take size (drop place text)) m es)
name-added text P c kind last place size a b Q es m some low inside k w y =
    cell-added text P c Q c (c + 2) last place size es m some low (omega arith) inside k w.extends (record { back = w.back; from = w.from; long = w.long }) y

-- ---- what the functions are given

module _ {text P S : List ℕ} {pos c : ℕ} {scope : Scope} (r : Ready text P S pos c scope) where
  pub ready-names : SomeNames text P scope.last
  ready-names = let (ns, k) = r.names in (c, ns.declared, omega (arith, r.room.fits, r.room.inside), k.cells)

  -- there is room for the cell of a name, and its numbers are small
  pub name-room : (no_wire full : Bool) (place after : ℕ) → NewAt text P scope pos no_wire full place after
      → (c + 2 ≤ length P) × (c + 2 ≤ 65535) × (scope.last < 65536) × (place < 65536) × (after - place < 65536)
  name-room no_wire full place after m =
      let q = r.room in
      let (ns, k) = r.names in
      let fits : c + 2 ≤ length P = omega (arith, q.fits, m.low, m.some, m.inside) in
      (fits, omega (arith, q.small), omega (arith, q.small, k.low), omega (arith, r.short, m.some, m.inside), omega (arith, r.short, m.inside))

-- a refusal, with words and values of the same length
pub refuse : (text : List ℕ) (state : Expect) (P S : List ℕ) (pos c : ℕ) (scope : Scope) (r : DeclaredTold) → (r.fault ≡ 0 → ⊥)
    → Refuses text state P S pos c scope r.fault r.at → Declares text state P S pos c scope r P S
refuse text state P S pos c scope r n f = record { words = refl; values = refl; outcome = faulted n f }

abbrev pub answered : (f pos free : ℕ) → Scope → DeclaredTold
answered f pos free scope = record { fault = f; at = pos; free = free; scope = scope }

-- ---- wires

-- the scope with a field more
abbrev pub with_wires : Scope → (c width : ℕ) → Scope
with_wires scope c width = record { last = c; count = scope.count + 1; wires = scope.wires + width; stores = scope.stores; limits = scope.limits }

wires-known : (text P S : List ℕ) (c place size width : ℕ) (Q : List ℕ) (scope : Scope) (ns : Names) → 1 ≤ c → place + size ≤ length text → 1 ≤ width → width ≤ 64 - scope.wires → scope.count < 128
    → NameWritten P c 0 scope.last place size scope.wires width Q → Known text P S c scope ns
    → Known text Q S (c + 2) (with_wires scope c width) (declare (new_input (take size (drop place text)) width) ns)
unfolding declare Means
wires-known text P S c place size width Q scope ns some inside one most few w k =
    record {
      cells = name-added text P c 0 scope.last place size scope.wires width Q ns.declared _ some k.low inside k.cells w
          (record { kind = w.of; used = omega arith; low = w.first ∙ k.wires; wide = w.second; some = one; inside = omega (arith, k.wires, k.word) });
      count = omega (arith, k.count);
      few = omega arith;
      wires = omega (arith, k.wires);
      word = omega (arith, k.word);
      stores = k.stores;
      room = k.room;
      values = k.values;
      limits = k.limits;
      few_limits = k.few_limits;
      bounds = k.bounds;
      low = omega arith;
    }

pub or_right : (a b : Bool) → b ≡ true → a || b ≡ true
or_right true b e = refl
or_right false b e = e

-- behind a wire's name
wide_input : (ns : Names) (s : List ℕ) (wires : ℕ) → wires ≡ ns.wires → wires < 64
    → Wide ns (input_more s) 0 (64 - wires) (λ w. declare (new_input s w) ns) (λ w. statement)
unfolding step
wide_input ns s wires e l =
    record {
      high = input_high s;
      ending = λ w. closing (new_input s w);
      wrong = λ h. ltb 63 h || ltb 64 (ns.wires + suc h);
      begins = λ t. refl;
      numeric = λ t. refl;
      ends = λ w t. refl;
      large = λ h m. or_right (ltb 63 h) (ltb 64 (ns.wires + suc h)) (lt-ltb 64 (ns.wires + suc h) (omega arith));
      small = λ h m. ap (λ (b : Bool). b || ltb 64 (ns.wires + suc h)) (le-ltb 63 h (omega arith)) ∙ le-ltb 64 (ns.wires + suc h) (omega arith);
    }

module _ (text P : List ℕ) (pos : ℕ) (scope : Scope) (f place after : ℕ) (name : NameRead text P scope pos (leb 64 scope.wires) false f place after) where
  pub wires-left : f ≡ 0 → scope.wires < 64
  wires-left z = leb-false 64 scope.wires (name-read text P scope pos _ false f place after name z).wire

  module _ (c : ℕ) (S : List ℕ) where
    new-wire : (ns : Names) → Known text P S c scope ns → (t : Placed) → step ns input_name t ≡ new_name ns t (leb 64 scope.wires) false (λ s. go ns (input_more s))
    unfolding step
    new-wire ns k t = ap (λ (n : ℕ). new_name ns t (leb 64 n) false (λ s. go ns (input_more s))) (sym k.wires)

    pub input-no-name : (f ≡ 0 → ⊥) → Declares text input_name P S pos c scope (answered f place c scope) P S
    input-no-name n =
        refuse text input_name P S pos c scope _ n (λ ns k.
        name-refused text P scope pos _ false f place after name c ns k.cells k.count input_name _ (new-wire ns k _) n)

    module _ (z : f ≡ 0) (g a width : ℕ) (wide : WidthRead text after 0 (64 - scope.wires) g a width) where
      -- behind the name
      behind-wire : (ns : Names) → Known text P S c scope ns → read_from text pos ns input_name ≡ read_from text after ns (input_more (take (after - place) (drop place text)))
      behind-wire ns k = name-on text P scope pos _ false f place after name c ns k.cells k.count input_name _ (new-wire ns k _) z

      pub input-no-width : (g ≡ 0 → ⊥) → Declares text input_name P S pos c scope (answered g a c scope) P S
      unfolding WidthRead
      input-no-width n =
          refuse text input_name P S pos c scope _ n (λ ns k.
          behind-wire ns k ∙ ill wide n ns _ _ _ (wide_input ns _ scope.wires k.wires (wires-left z)))

      pub input-read : g ≡ 0 → Room text P pos c → (Q : List ℕ) → NameWritten P c 0 scope.last place (after - place) scope.wires width Q
          → Declares text input_name P S pos c scope (answered 0 a (c + 2) (with_wires scope c width)) Q S
      input-read y room Q w =
          let m = name-read text P scope pos _ false f place after name z in
          let d = width_is text after 0 (64 - scope.wires) g a width wide y in
          let further : pos < a = omega (arith, m.low, m.some, d.past.0) in
          record {
            words = w.extends.long;
            values = refl;
            outcome = fine refl (record {
              extends = w.extends;
              spent = link-spent text pos c a (c + 2) further d.past.1 (omega arith);
              further = further;
              reads = λ ns k. (
                _,
                wires-known text P S c place (after - place) width Q scope ns room.some (omega (arith, m.some, m.inside)) d.some d.few m.few w k,
                behind-wire ns k ∙ d.leads ns _ _ _ (wide_input ns _ scope.wires k.wires (wires-left z)),
              );
            });
          }

-- ---- stores

abbrev pub with_store : Scope → (c : ℕ) → Scope
with_store scope c = record { last = c; count = scope.count + 1; wires = scope.wires; stores = scope.stores + 1; limits = scope.limits }

stores-known : (text P S : List ℕ) (c place size width v : ℕ) (Q : List ℕ) (scope : Scope) (ns : Names) → 1 ≤ c → place + size ≤ length text → 1 ≤ width → width ≤ 64 → scope.count < 128
    → scope.stores < 16 → length S ≡ 24 → NameWritten P c 1 scope.last place size scope.stores width Q → Known text P S c scope ns
    → Known text Q (set S scope.stores v) (c + 2) (with_store scope c) (declare (new_store (take size (drop place text)) width v) ns)
unfolding declare Means
stores-known text P S c place size width v Q scope ns some inside one most few free all w k =
    record {
      cells = name-added text P c 1 scope.last place size scope.stores width Q ns.declared _ some k.low inside k.cells w
          (record { kind = w.of; used = omega arith; own = w.first ∙ k.stores; wide = w.second; few = omega (arith, k.stores); some = one; inside = most });
      count = omega (arith, k.count);
      few = omega arith;
      wires = k.wires;
      word = k.word;
      stores = omega (arith, k.stores, length-append ns.initial (v ∷ []));
      room = omega arith;
      values = rw (add-one scope.stores) (take-suc-set S scope.stores v (omega arith) ∙ ap (λ (l : List ℕ). l ++ (v ∷ [])) k.values);
      limits = k.limits;
      few_limits = k.few_limits;
      bounds = ap (take scope.limits) (drop-set-lt 16 S scope.stores v free) ∙ k.bounds;
      low = omega arith;
    }

-- behind a store's name
wide_store : (ns : Names) (s : List ℕ) → Wide ns (store_more s) 13 64 (λ w. ns) (store_first s)
unfolding step
wide_store ns s =
    record {
      high = store_high s;
      ending = λ w. sign 13 (store_first s w);
      wrong = ltb 63;
      begins = λ t. refl;
      numeric = λ t. refl;
      ends = λ w t. refl;
      large = λ h m. lt-ltb 63 h (omega arith);
      small = λ h m. le-ltb 63 h (omega arith);
    }

module _ (text P : List ℕ) (pos : ℕ) (scope : Scope) (f place after : ℕ) (name : NameRead text P scope pos false (leb 16 scope.stores) f place after) where
  pub stores-left : f ≡ 0 → scope.stores < 16
  stores-left z = leb-false 16 scope.stores (name-read text P scope pos false _ f place after name z).room

  module _ (c : ℕ) (S : List ℕ) where
    name_of_store : (ns : Names) → Known text P S c scope ns → (t : Placed) → step ns store_name t ≡ new_name ns t false (leb 16 scope.stores) (λ s. go ns (store_more s))
    unfolding step
    name_of_store ns k t = ap (λ (n : ℕ). new_name ns t false (leb 16 n) (λ s. go ns (store_more s))) (sym k.stores)

    pub store-no-name : (f ≡ 0 → ⊥) → Declares text store_name P S pos c scope (answered f place c scope) P S
    store-no-name n =
        refuse text store_name P S pos c scope _ n (λ ns k.
        name-refused text P scope pos false _ f place after name c ns k.cells k.count store_name _ (name_of_store ns k _) n)

    module _ (z : f ≡ 0) (g a width : ℕ) (wide : WidthRead text after 13 64 g a width) where
      -- the name's bytes
      abbrev bytes : List ℕ
      bytes = take (after - place) (drop place text)

      behind-store : (ns : Names) → Known text P S c scope ns → read_from text pos ns store_name ≡ read_from text after ns (store_more bytes)
      behind-store ns k = name-on text P scope pos false _ f place after name c ns k.cells k.count store_name _ (name_of_store ns k _) z

      pub store-no-width : (g ≡ 0 → ⊥) → Declares text store_name P S pos c scope (answered g a c scope) P S
      unfolding WidthRead
      store-no-width n = refuse text store_name P S pos c scope _ n (λ ns k. behind-store ns k ∙ ill wide n ns _ _ _ (wide_store ns _))

      module _ (y : g ≡ 0) (top h b p v : ℕ) (is : top ≡ 2 ^ width - 1) (num : NumberRead text a top h b p v) where
        behind-equals : (ns : Names) → Known text P S c scope ns → read_from text pos ns store_name ≡ read_from text a ns (store_first bytes width)
        behind-equals ns k = behind-store ns k ∙ (width_is text after 13 64 g a width wide y).leads ns _ _ _ (wide_store ns _)

        first_value : (ns : Names) → Numeric ns (store_first bytes width) (leb (2 ^ width)) (λ n. go ns (closing (new_store bytes width n)))
        unfolding Numeric step
        first_value ns t = refl

        pub store-no-first : (h ≡ 0 → ⊥) → Declares text store_name P S pos c scope (answered h b c scope) P S
        store-no-first n =
            refuse text store_name P S pos c scope _ n (λ ns k.
            behind-equals ns k ∙ number-refused text a top h b p v num n ns _ _ _ (first_value ns) (λ j l. le-leb (2 ^ width) j (omega arith)))

        module _ (x : h ≡ 0) (i d : ℕ) (end : Behind text b i d (sign 0)) where
          behind-first : (ns : Names) → Known text P S c scope ns → read_from text pos ns store_name ≡ read_from text b (declare (new_store bytes width v) ns) (sign 0 statement)
          unfolding step
          behind-first ns k =
              let small : v < 2 ^ width = let m = number-most text a top h b p v num x in let o = pow_pos width in omega arith in
              behind-equals ns k ∙ number-on text a top h b p v num x ns _ _ _ (first_value ns) (lt-leb (2 ^ width) v small) ∙ signed text b ns _ _ _ 0 (λ t. refl)

          pub store-no-end : (i ≡ 0 → ⊥) → Declares text store_name P S pos c scope (answered i d c scope) P S
          unfolding Behind
          store-no-end n = refuse text store_name P S pos c scope _ n (λ ns k. behind-first ns k ∙ ill end n _ _)

          pub store-read : i ≡ 0 → Room text P pos c → length S ≡ 24 → (Q : List ℕ) → NameWritten P c 1 scope.last place (after - place) scope.stores width Q
              → Declares text store_name P S pos c scope (answered 0 d (c + 2) (with_store scope c)) Q (set S scope.stores v)
          unfolding Behind
          store-read q room all Q w =
              let m = name-read text P scope pos false _ f place after name z in
              let e = width_is text after 13 64 g a width wide y in
              let n = number_past text a top h b p v num x in
              let (o, on) = well end q in
              let further : pos < d = omega (arith, m.low, m.some, e.past.0) in
              record {
                words = w.extends.long;
                values = length-set S scope.stores v;
                outcome = fine refl (record {
                  extends = w.extends;
                  spent = link-spent text pos c d (c + 2) further o.1 (omega arith);
                  further = further;
                  reads = λ ns k. (
                    _,
                    stores-known text P S c place (after - place) width v Q scope ns room.some (omega (arith, m.some, m.inside)) e.some e.few m.few (stores-left z) all w k,
                    behind-first ns k ∙ on _ _,
                  );
                });
              }
