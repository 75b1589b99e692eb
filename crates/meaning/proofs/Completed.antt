-- What was read of a text that is refused can be completed as a text: the bytes up to the end of the last token before the one refused, and others behind them, are a text of
-- the grammar, names and limits apart (specs/Viable). The tokens that can follow (proofs/Viable) are spelled with a space behind each. Assumes nothing.
use mathlib.Core.Path.{◌≡◌, refl, sym, ◌∙◌, ap, subst}
use mathlib.Core.Bool.{Bool, true, false, cond}
use mathlib.Core.List.{List, [], ◌∷◌, ◌++◌}
use Prim.Native.Nat.{ℕ, ◌≤◌, ◌<◌}
use native.Mathlib.Nat.{le_of_lt, add-zero}
use native.Mathlib.Omega.{arith}
use lib.ListN.{length, take, drop, take-append-drop}
use lib.Seq.{drop-length, length-take-le}
use Rattle.lexer.specs.Tokens as token
use Rattle.lexer.specs.Tokens.{Token, Placed, first_token, next_token, goes_on, token_at, tokens_at, tokens, rule_words}
use Rattle.lexer.specs.Bytes.{run, is_white}
use Rattle.lexer.proofs.Sized.{lies}
use Rattle.lexer.proofs.Order.{tokens-step}
use Rattle.lexer.proofs.Moved.{moved, token-moved}
use Rattle.lexer.proofs.Parted.{joined, kinds-moved, tokens-parted}
use Rattle.lexer.proofs.Boundary.{token-front, goes-no-end}
use Rattle.meaning.specs.Reading.{Expect}
use Rattle.meaning.specs.Names.{Names, no_names, Program}
use Rattle.meaning.specs.Grammar.{IsText, plain_tokens, IsProgram}
use Rattle.meaning.specs.Viable.{Spelled, Spare, Refusal}
use Rattle.meaning.proofs.ListLaws.{clash}
use Rattle.meaning.proofs.Stops.{next-goes-on}
use Rattle.meaning.proofs.Finish.{Finish, ends, then, tokens_of}
use Rattle.meaning.proofs.Viable.{ending}

-- where the last of some tokens ends, behind a position
abbrev pub last_end : ℕ → List Placed → ℕ
last_end at [] = at
last_end at (t ∷ ts) = last_end t.after ts

-- tokens behind which reading goes on
abbrev GoOn : List Token → Type 0
GoOn [] = Unit {0}
GoOn (u ∷ us) = (goes_on u ≡ true) × GoOn us

-- ---- the first bytes of a text

module _ (s : List ℕ) (q : Placed) (rest : List Placed) where
  -- a token that others stand behind is followed by these
  front : (at : ℕ) (t : Placed) (ts : List Placed) → tokens_at rule_words s at ≡ t ∷ (ts ++ (q ∷ rest))
      → (token_at rule_words s at ≡ t) × (goes_on t.token ≡ true) × (tokens_at rule_words s t.after ≡ ts ++ (q ∷ rest))
  front at t ts e = by (goes_on (token_at rule_words s at).token) refl (sym (tokens-step rule_words s at) ∙ e)
    where
      some : (ts : List Placed) → [] ≡ ts ++ (q ∷ rest) → ⊥
      some [] e = clash (cc)
      some (t ∷ ts) e = clash (cc)

      by : (b : Bool) → goes_on (token_at rule_words s at).token ≡ b → token_at rule_words s at ∷ cond b (tokens_at rule_words s (token_at rule_words s at).after) [] ≡ t ∷ (ts ++ (q ∷ rest))
          → (token_at rule_words s at ≡ t) × (goes_on t.token ≡ true) × (tokens_at rule_words s t.after ≡ ts ++ (q ∷ rest))
      by true g e =
          let h : token_at rule_words s at ≡ t = cc in
          let k : tokens_at rule_words s (token_at rule_words s at).after ≡ ts ++ (q ∷ rest) = cc in
          (h, rw h at g, rw h at k)
      by false g e = absurd (some ts (cc))

  goes_on_lem : (at : ℕ) (ts : List Placed) → tokens_at rule_words s at ≡ ts ++ (q ∷ rest) → GoOn (plain_tokens ts)
  goes_on_lem at [] e = tt
  goes_on_lem at (t ∷ ts) e = let (h, g, f) = front at t ts e in (g, goes_on_lem t.after ts f)

  within : (at : ℕ) (ts : List Placed) → tokens_at rule_words s at ≡ ts ++ (q ∷ rest) → at ≤ length s → last_end at ts ≤ length s
  within at [] e l = l
  within at (t ∷ ts) e l = let (h, g, f) = front at t ts e in within t.after ts f (rw h at (lies rule_words s at).high)

  since : (at : ℕ) (ts : List Placed) → tokens_at rule_words s at ≡ ts ++ (q ∷ rest) → at ≤ last_end at ts
  since at [] e = omega arith
  since at (t ∷ ts) e =
      let (h, g, f) = front at t ts e in
      let k : at ≤ t.after = rw h at (le_of_lt (before (rw (← h) at g))) in
      omega (arith, since t.after ts f)
    where
      before : goes_on (token_at rule_words s at).token ≡ true → at < (token_at rule_words s at).after
      before g = omega (arith, (lies rule_words s at).grows g)

-- at the end of a text stands the end
at-end : (x : List ℕ) → (token_at rule_words x (length x)).token ≡ token.end
unfolding token_at next_token first_token run
at-end x = rw (drop-length x)

end-alone : (x : List ℕ) → plain_tokens (tokens_at rule_words x (length x)) ≡ token.end ∷ []
end-alone x = rw (tokens-step rule_words x (length x), at-end x)

module _ (x y : List ℕ) (q : Placed) (rest : List Placed) where
  -- The tokens of a text that end with x are x's, before its end.
  cut-tokens : (ts : List Placed) (at : ℕ) → tokens_at rule_words (x ++ y) at ≡ ts ++ (q ∷ rest) → last_end at ts ≡ length x → plain_tokens (tokens_at rule_words x at) ≡ plain_tokens ts ++ (token.end ∷ [])
  cut-tokens [] at e h = rw h (end-alone x)
  cut-tokens (t ∷ ts) at e h =
      let (a, g, f) = front (x ++ y) q rest at t ts e in
      let k : at ≤ length x = omega (arith, since (x ++ y) q rest at (t ∷ ts) e) in
      let l : t.after ≤ length x = omega (arith, since (x ++ y) q rest t.after ts f) in
      let n : token_at rule_words x at ≡ t = sym (token-front rule_words x y at k (rw a g) (rw a l)) ∙ a in
      rw (tokens-step rule_words x at, n, g) (ap (λ (us : List Token). t.token ∷ us) (cut-tokens ts t.after f h))

-- ---- a text of tokens

-- others stand in the place of the end
joined-plain : (ts : List Placed) (us : List Token) (r : List Placed) → GoOn us → plain_tokens ts ≡ us ++ (token.end ∷ []) → plain_tokens (joined ts r) ≡ us ++ plain_tokens r
unfolding joined
joined-plain [] [] r g e = clash (cc)
joined-plain [] (u ∷ us) r g e = clash (cc)
joined-plain (t ∷ ts) [] r g e = let h : t.token ≡ token.end = cc in rw h
joined-plain (t ∷ ts) (u ∷ us) r (g, k) e =
    let h : t.token ≡ u = cc in
    rw (h, goes-no-end u g) (ap (λ (vs : List Token). u ∷ vs) (joined-plain ts us r k (cc)))

-- a text behind a space
behind-space : (x y : List ℕ) (us : List Token) → GoOn us → plain_tokens (tokens rule_words x) ≡ us ++ (token.end ∷ []) → plain_tokens (tokens rule_words (x ++ (32 ∷ y))) ≡ us ++ plain_tokens (tokens rule_words y)
unfolding is_white
behind-space x y us g e =
    ap plain_tokens (tokens-parted rule_words x (32 ∷ []) y (omega arith) refl)
    ∙ joined-plain (tokens rule_words x) us _ g e
    ∙ ap (λ (vs : List Token). us ++ vs) (kinds-moved _ (tokens rule_words y))

-- the first token of a text by itself
first_alone : (z : List ℕ) → goes_on (token_at rule_words z 0).token ≡ true → plain_tokens (tokens rule_words (take (token_at rule_words z 0).after z)) ≡ (token_at rule_words z 0).token ∷ token.end ∷ []
first_alone z g =
    let n : ℕ = (token_at rule_words z 0).after in
    let e : tokens_at rule_words z 0 ≡ token_at rule_words z 0 ∷ tokens_at rule_words z n = tokens-step rule_words z 0 ∙ rw g in
    let f : tokens_at rule_words (take n z ++ drop n z) 0 ≡ token_at rule_words z 0 ∷ (token_at rule_words z n ∷ cond (goes_on (token_at rule_words z n).token) (tokens_at rule_words z (token_at rule_words z n).after) []) =
    rw (take-append-drop n z) (e ∙ ap (λ (ts : List Placed). token_at rule_words z 0 ∷ ts) (tokens-step rule_words z n)) in
    cut-tokens (take n z) (drop n z) _ _ (token_at rule_words z 0 ∷ []) 0 f (sym (length-take-le n z (lies rule_words z 0).high))

-- a token that goes on and that a text can have, by itself
alone : (u : Token) → Spelled u → goes_on u ≡ true → (w : List ℕ) × (plain_tokens (tokens rule_words w) ≡ u ∷ token.end ∷ [])
alone u (text, at, e) g =
    let z : List ℕ = drop at text in
    let l : at ≤ length text = omega (arith, (lies rule_words text at).grows (rw e g), (lies rule_words text at).high) in
    let h : token_at rule_words text at ≡ moved at (token_at rule_words z 0) =
    rw (take-append-drop at text, add-zero, length-take-le at text l) at (token-moved rule_words (take at text) z 0) in
    let k : (token_at rule_words z 0).token ≡ u = cc in
    (take (token_at rule_words z 0).after z, rw k at (first_alone z (rw k g)))

-- tokens to the end, with a space behind each
finish-text : {ns : Names} {x : Expect} (f : Finish ns x) → (y : List ℕ) × (plain_tokens (tokens rule_words y) ≡ tokens_of f)
finish-text ends = ([], end-alone [])
finish-text (then {u} t n f) =
    let g : goes_on u ≡ true = next-goes-on n in
    let (w, e) = alone u t g in
    let (y, k) = finish-text f in
    (w ++ (32 ∷ y), behind-space w y (u ∷ []) (g, tt) e ∙ ap (λ (us : List Token). u ∷ us) k)

-- ---- the text

-- What was read of a text that is refused, up to the end of the last token, can be followed by bytes with which it is a text of the grammar, names and limits apart.
pub completed : {text : List ℕ} {number place : ℕ} (r : Refusal text number place) → Spare r.names r.expects
    → (y : List ℕ) × (p : Program) × IsProgram (take (last_end 0 r.before) text ++ y) p
completed {text} r k =
    let ps : List Placed = r.before in
    let n : ℕ = last_end 0 ps in
    let (f, p, t) = ending text ps (r.at ∷ r.behind) r.splits r.names r.expects r.reads k in
    let (y, e) = finish-text f in
    let h : tokens_at rule_words (take n text ++ drop n text) 0 ≡ ps ++ (r.at ∷ r.behind) = rw (take-append-drop n text) r.splits in
    let x : plain_tokens (tokens rule_words (take n text)) ≡ plain_tokens ps ++ (token.end ∷ []) =
    cut-tokens (take n text) (drop n text) r.at r.behind ps 0 h (sym (length-take-le n text (within text r.at r.behind 0 ps r.splits (omega arith)))) in
    let l : plain_tokens (tokens rule_words (take n text ++ (32 ∷ y))) ≡ plain_tokens ps ++ tokens_of f =
    behind-space (take n text) y (plain_tokens ps) (goes_on_lem text r.at r.behind 0 ps r.splits) x ∙ ap (λ (us : List Token). plain_tokens ps ++ us) e in
    (32 ∷ y, p, subst (λ (us : List Token). IsText no_names us p) (sym l) t)
