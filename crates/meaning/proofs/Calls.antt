-- Calls: each reply is the right one (docs/REFERENCE.md, W3 to W6), no other list of replies is, and machines that go alike give the same.
use mathlib.Core.List.{List, [], ◌∷◌, ◌++◌, append-nil, append_assoc}
use mathlib.Core.Bool.{Bool, true, false, not, cond, ◌||◌}
use mathlib.Core.Path.{◌≡◌, refl, sym, ap, ap₂, ◌∙◌, subst}
use mathlib.Core.Logic.{◌↔◌}
use Prim.Native.Nat.{ℕ, zero, suc, ◌+◌, ◌^◌, ◌≤◌, ◌<◌}
use native.Mathlib.Omega.{arith}
use lib.Dec.{T, T_not, not_T, leb→le, le→leb, nleb→lt}
use native.Mathlib.Decide.{dec_lt, ℕ_discrete}
use lib.ListN.{length, take as up_to, get_or}
use lib.Seq.{take-suc, take_all}
use Rattle.lexer.proofs.Bools.{or-true, or-false}
use Rattle.meaning.specs.Lists.{any, count, only}
use Rattle.meaning.specs.Expression.{Exp}
use Rattle.meaning.specs.Fit.{Verdict, ok as clean, bad as broken, History, start, onward, history}
use Rattle.meaning.specs.Names.{Limit}
use Rattle.meaning.specs.Limits.{judged}
use Rattle.meaning.specs.Calls.{Call, look, take, word_of, Reply, ok, bad, refused, reply_of, most_ticks, is_full, is_stray, State, opening, reply, after, after_call, replies_from, state_from, replies, is_ok, is_bad, is_refused, taken, taken_replies, judged_words, Rightly, AllRightly}
use Rattle.meaning.proofs.ListLaws.{carry-append, clash}

-- ---- one reply ----

-- stopped, full, stray, and the reply if it is none of them
abbrev chosen : (a b c : Bool) → Reply → Reply
chosen a b c r = cond a (refused 16 0) (cond b (refused 17 0) (cond c (refused 15 0) r))

chosen-16 : (a b c : Bool) (v : Verdict) → chosen a b c (reply_of v) ≡ refused 16 0 ↔ T a
chosen-16 true b c v = (λ p. tt, λ t. refl)
chosen-16 false true c v = (λ p. clash (cc), λ t. absurd t)
chosen-16 false false true v = (λ p. clash (cc), λ t. absurd t)
chosen-16 false false false clean = (λ p. clash (cc), λ t. absurd t)
chosen-16 false false false (broken m) = (λ p. clash (cc), λ t. absurd t)

chosen-17 : (a b c : Bool) (v : Verdict) → chosen a b c (reply_of v) ≡ refused 17 0 ↔ (T (not a) × T b)
chosen-17 true b c v = (λ p. clash (cc), λ (t, u). absurd t)
chosen-17 false true c v = (λ p. (tt, tt), λ t. refl)
chosen-17 false false true v = (λ p. clash (cc), λ (t, u). absurd u)
chosen-17 false false false clean = (λ p. clash (cc), λ (t, u). absurd u)
chosen-17 false false false (broken m) = (λ p. clash (cc), λ (t, u). absurd u)

chosen-15 : (a b c : Bool) (v : Verdict) → chosen a b c (reply_of v) ≡ refused 15 0 ↔ (T (not a) × T (not b) × T c)
chosen-15 true b c v = (λ p. clash (cc), λ (t, u, x). absurd t)
chosen-15 false true c v = (λ p. clash (cc), λ (t, u, x). absurd u)
chosen-15 false false true v = (λ p. (tt, tt, tt), λ t. refl)
chosen-15 false false false clean = (λ p. clash (cc), λ (t, u, x). absurd x)
chosen-15 false false false (broken m) = (λ p. clash (cc), λ (t, u, x). absurd x)

chosen-else : (a b c : Bool) (r : Reply) → T (not a) → T (not b) → T (not c) → chosen a b c r ≡ r
chosen-else true b c r t u x = absurd t
chosen-else false true c r t u x = absurd u
chosen-else false false true r t u x = absurd x
chosen-else false false false r t u x = refl

chosen-ok : (a b c : Bool) (v : Verdict) → chosen a b c (reply_of v) ≡ ok → T (not a) × T (not b) × (v ≡ clean)
chosen-ok true b c v p = clash (cc)
chosen-ok false true c v p = clash (cc)
chosen-ok false false true v p = clash (cc)
chosen-ok false false false clean p = (tt, tt, refl)
chosen-ok false false false (broken m) p = clash (cc)

-- ---- one take more at the end of the list ----

any_snoc : (rs : List Reply) (r : Reply) → any is_bad (rs ++ r ∷ []) ≡ any is_bad rs || is_bad r
any_snoc [] ok = refl
any_snoc [] (bad m) = refl
any_snoc [] (refused n q) = refl
any_snoc (ok ∷ rs) r = any_snoc rs r
any_snoc (bad m ∷ rs) r = refl
any_snoc (refused n q ∷ rs) r = any_snoc rs r

count-snoc : (rs : List Reply) (r : Reply) → count is_ok (rs ++ r ∷ []) ≡ count is_ok rs + cond (is_ok r) 1 0
count-snoc [] r = omega arith
count-snoc (x ∷ rs) r = omega (arith, count-snoc rs r)

words_snoc : (ws : List ℕ) (rs : List Reply) (w : ℕ) (r : Reply) → length ws ≡ length rs
    → judged_words (ws ++ w ∷ []) (rs ++ r ∷ []) ≡ judged_words ws rs ++ only (not (is_refused r)) (w ∷ [])
words_snoc [] [] w r p = append-nil (only (not (is_refused r)) (w ∷ []))
words_snoc [] (x ∷ rs) w r p = absurd (omega arith)
words_snoc (v ∷ ws) [] w r p = absurd (omega arith)
words_snoc (v ∷ ws) (x ∷ rs) w r p =
    ap (λ l. only (not (is_refused x)) (v ∷ []) ++ l) (words_snoc ws rs w r (omega arith))
    ∙ sym (append_assoc (only (not (is_refused x)) (v ∷ [])) (judged_words ws rs) (only (not (is_refused r)) (w ∷ [])))

length-snoc : {A B : Type 0} (xs : List A) (ys : List B) (x : A) (y : B) → length xs ≡ length ys → length (xs ++ x ∷ []) ≡ length (ys ++ y ∷ [])
length-snoc [] [] x y p = refl
length-snoc [] (b ∷ ys) x y p = absurd (omega arith)
length-snoc (a ∷ xs) [] x y p = absurd (omega arith)
length-snoc (a ∷ xs) (b ∷ ys) x y p = ap suc (length-snoc xs ys x y (omega arith))

-- ---- the state holds what the sentence asks of the earlier takes ----

module _ (ls : List Limit) (ms : List Exp) (initial : List ℕ) (wires : ℕ) where
  -- the state after takes of the words ws with the replies rs
  record Kept (ws : List ℕ) (rs : List Reply) (s : State History) : Type 0 where
    pub stopped-is : s.stopped ≡ any is_bad rs
    pub oks-is : s.oks ≡ count is_ok rs
    pub oks-most : s.oks ≤ 1000000
    pub inner-is : T (not (any is_bad rs)) → s.inner ≡ history ms initial (judged_words ws rs)
    pub as_long : length ws ≡ length rs

  module _ (ws : List ℕ) (rs : List Reply) (s : State History) (k : Kept ws rs s) (w : ℕ) where
    not_stopped : T (not (any is_bad rs)) → T (not s.stopped)
    not_stopped t = subst (λ b. T (not b)) (sym k.stopped-is) t

    stopped-not : T (not s.stopped) → T (not (any is_bad rs))
    stopped-not t = subst (λ b. T (not b)) k.stopped-is t

    not_full : (count is_ok rs ≡ 1000000 → ⊥) → T (not (is_full s.oks))
    not_full h = not_T (is_full s.oks) (λ t. h (omega (arith, k.oks-is, k.oks-most, leb→le most_ticks s.oks t)))

    rightly : Rightly ls ms initial wires ws rs w (reply (judged ls ms) wires s w)
    unfolding reply
    rightly =
        record {
          stopped = (λ p. subst T k.stopped-is ((chosen-16 a b c v).0 p), λ t. (chosen-16 a b c v).1 (subst T (sym k.stopped-is) t));
          full = (
            λ p. let (t, u) = (chosen-17 a b c v).0 p in (stopped-not t, omega (arith, k.oks-is, k.oks-most, leb→le most_ticks s.oks u)),
            λ (t, e). (chosen-17 a b c v).1 (not_stopped t, le→leb most_ticks s.oks (omega (arith, k.oks-is))),
          );
          stray = (
            λ p. let (t, u, x) = (chosen-15 a b c v).0 p in
                (stopped-not t, (λ e. omega (arith, k.oks-is, nleb→lt most_ticks s.oks u)), leb→le (2 ^ wires) w x),
            λ (t, h, le). (chosen-15 a b c v).1 (not_stopped t, not_full h, le→leb (2 ^ wires) w le),
          );
          other = λ t h lt.
              chosen-else a b c (reply_of v) (not_stopped t) (not_full h) (not_T c (λ x. omega (arith, leb→le (2 ^ wires) w x)))
              ∙ ap (λ h. reply_of (judged ls ms h w)) (k.inner-is t);
        }
      where
        a : Bool
        a = s.stopped

        b : Bool
        b = is_full s.oks

        c : Bool
        c = is_stray wires w

        v : Verdict
        v = judged ls ms s.inner w

    keep : (r : Reply) → reply (judged ls ms) wires s w ≡ r → Kept (ws ++ w ∷ []) (rs ++ r ∷ []) (after (onward ms) s w r)
    unfolding reply
    keep ok p =
        let (t, u, e) = chosen-ok s.stopped (is_full s.oks) (is_stray wires w) (judged ls ms s.inner w) p in
        record {
          stopped-is = k.stopped-is ∙ sym (any_snoc rs ok ∙ or-false (any is_bad rs));
          oks-is = omega (arith, k.oks-is, count-snoc rs ok);
          oks-most = nleb→lt most_ticks s.oks u;
          inner-is = λ x.
              ap (λ h. onward ms h w) (k.inner-is (stopped-not t))
              ∙ sym (carry-append (onward ms) (start initial) (judged_words ws rs) (w ∷ []))
              ∙ ap (history ms initial) (sym (words_snoc ws rs w ok k.as_long));
          as_long = length-snoc ws rs w ok k.as_long;
        }
    keep (bad m) p =
        record {
          stopped-is = sym (any_snoc rs (bad m) ∙ or-true (any is_bad rs));
          oks-is = omega (arith, k.oks-is, count-snoc rs (bad m));
          oks-most = k.oks-most;
          inner-is = λ x. absurd (T_not (any is_bad (rs ++ bad m ∷ [])) x (subst T (sym (any_snoc rs (bad m) ∙ or-true (any is_bad rs))) tt));
          as_long = length-snoc ws rs w (bad m) k.as_long;
        }
    keep (refused n q) p =
        record {
          stopped-is = k.stopped-is ∙ same;
          oks-is = omega (arith, k.oks-is, count-snoc rs (refused n q));
          oks-most = k.oks-most;
          inner-is = λ x.
              k.inner-is (subst (λ b. T (not b)) (sym same) x)
              ∙ ap (history ms initial) (sym (words_snoc ws rs w (refused n q) k.as_long ∙ append-nil (judged_words ws rs)));
          as_long = length-snoc ws rs w (refused n q) k.as_long;
        }
      where
        same : any is_bad rs ≡ any is_bad (rs ++ refused n q ∷ [])
        same = sym (any_snoc rs (refused n q) ∙ or-false (any is_bad rs))

  -- the replies to more calls: a look finds what the takes before it left
  rightly-from : (cs : List Call) (s : State History) (ws : List ℕ) (rs : List Reply) → Kept ws rs s → (n : ℕ) → n < length cs
      → Rightly ls ms initial wires (ws ++ taken (up_to n cs)) (rs ++ taken_replies (up_to n cs) (up_to n (replies_from (judged ls ms) (onward ms) wires s cs)))
      (word_of (get_or cs n (take 0))) (get_or (replies_from (judged ls ms) (onward ms) wires s cs) n ok)
  unfolding replies_from
  rightly-from [] s ws rs k n lt = absurd (omega arith)
  rightly-from (c ∷ cs) s ws rs k zero lt = rw (append-nil ws, append-nil rs) (rightly ws rs s k (word_of c))
  rightly-from (look w ∷ cs) s ws rs k (suc n) lt = rightly-from cs s ws rs k n (omega arith)
  rightly-from (take w ∷ cs) s ws rs k (suc n) lt =
      rw (← append_assoc ws (w ∷ []) (taken (up_to n cs)), ← append_assoc rs (r ∷ []) (taken_replies (up_to n cs) (up_to n (replies_from (judged ls ms) (onward ms) wires t cs))))
      (rightly-from cs t (ws ++ w ∷ []) (rs ++ r ∷ []) (keep ws rs s k w r refl) n (omega arith))
    where
      r : Reply
      r = reply (judged ls ms) wires s w

      t : State History
      t = after (onward ms) s w r

  -- Every call is answered as W3 to W6 say.
  pub replies-rightly : (cs : List Call) → AllRightly ls ms initial wires cs (replies ls ms initial wires cs)
  replies-rightly cs = rightly-from cs (opening (start initial)) [] []
      (record { stopped-is = refl; oks-is = refl; oks-most = omega arith; inner-is = λ t. refl; as_long = refl })

-- ---- and in no other way ----

module _ (ls : List Limit) (ms : List Exp) (initial : List ℕ) (wires : ℕ) where
  one-reply : (ws : List ℕ) (rs : List Reply) (w : ℕ) (r q : Reply) → Rightly ls ms initial wires ws rs w r → Rightly ls ms initial wires ws rs w q → r ≡ q
  one-reply ws rs w r q x y = by (any is_bad rs) refl
    where
      open-call : T (not (any is_bad rs)) → (count is_ok rs ≡ 1000000 → ⊥) → r ≡ q
      open-call t h = elim (dec_lt w (2 ^ wires)) [
        | yes lt ↦ x.other t h lt ∙ sym (y.other t h lt)
        | no ge ↦ x.stray.1 (t, h, (omega arith)) ∙ sym (y.stray.1 (t, h, (omega arith)))
      ]

      by : (b : Bool) → any is_bad rs ≡ b → r ≡ q
      by true p = let t = subst T (sym p) tt in x.stopped.1 t ∙ sym (y.stopped.1 t)
      by false p =
          let t : T (not (any is_bad rs)) = subst (λ b. T (not b)) (sym p) tt in
          elim (ℕ_discrete (count is_ok rs) 1000000) [
            | yes e ↦ x.full.1 (t, e) ∙ sym (y.full.1 (t, e))
            | no h ↦ open-call t h
          ]

  -- the replies up to each call
  one_way : (cs : List Call) (rs qs : List Reply) → length rs ≡ length cs → length qs ≡ length cs
      → AllRightly ls ms initial wires cs rs → AllRightly ls ms initial wires cs qs → (n : ℕ) → n ≤ length cs → up_to n rs ≡ up_to n qs
  one_way cs rs qs a b x y zero le = refl
  one_way cs rs qs a b x y (suc n) le =
      let same : up_to n rs ≡ up_to n qs = one_way cs rs qs a b x y n (omega arith) in
      let w : ℕ = word_of (get_or cs n (take 0)) in
      take-suc rs n ok (omega arith)
      ∙ ap₂ (λ l r. l ++ r ∷ []) same
      (one-reply (taken (up_to n cs)) (taken_replies (up_to n cs) (up_to n qs)) w _ _
      (subst (λ l. Rightly ls ms initial wires (taken (up_to n cs)) (taken_replies (up_to n cs) l) w (get_or rs n ok)) same (x n (omega arith))) (y n (omega arith)))
      ∙ sym (take-suc qs n ok (omega arith))

  pub length-replies : (s : State History) (cs : List Call) → length (replies_from (judged ls ms) (onward ms) wires s cs) ≡ length cs
  unfolding replies_from
  length-replies s [] = refl
  length-replies s (c ∷ cs) = ap suc (length-replies (after_call (onward ms) s c (reply (judged ls ms) wires s (word_of c))) cs)

  -- W11: "Text and calls alone fix all answers"
  pub replies-only : (cs : List Call) (rs : List Reply) → length rs ≡ length cs → AllRightly ls ms initial wires cs rs → rs ≡ replies ls ms initial wires cs
  replies-only cs rs p x =
      let q : length (replies ls ms initial wires cs) ≡ length cs = length-replies (opening (start initial)) cs in
      sym (take_all (length cs) rs (omega arith))
      ∙ one_way cs rs (replies ls ms initial wires cs) p q x (replies-rightly ls ms initial wires cs) (length cs) (omega arith)
      ∙ take_all (length cs) (replies ls ms initial wires cs) (omega arith)

-- ---- two that judge alike reply alike ----

-- what is in them is alike, the same number of calls was ok, and one was bad in both or in neither
abbrev pub Alike : {S R : Type 0} → (Like : S → R → Type 0) → State S → State R → Type 0
Alike Like x y = Like x.inner y.inner × (x.oks ≡ y.oks) × (x.stopped ≡ y.stopped)

module _ {S R : Type 0} (judge : S → ℕ → Verdict) (move : S → ℕ → S) (judge' : R → ℕ → Verdict) (move' : R → ℕ → R) (Like : S → R → Type 0)
    (alike : (s : S) (r : R) → Like s r → (w : ℕ) → judge s w ≡ judge' r w)
    (onwards : (s : S) (r : R) → Like s r → (w : ℕ) → judge' r w ≡ clean → Like (move s w) (move' r w)) (wires : ℕ) where
  module _ (x : State S) (y : State R) (a : Alike Like x y) (w : ℕ) where
    same-reply : reply judge wires x w ≡ reply judge' wires y w
    unfolding reply
    same-reply = rw (a.1, a.2, alike x.inner y.inner a.0 w)

    left-alike : (k : Reply) → reply judge' wires y w ≡ k → Alike Like (after move x w k) (after move' y w k)
    unfolding reply
    left-alike ok p =
        (onwards x.inner y.inner a.0 w (chosen-ok y.stopped (is_full y.oks) (is_stray wires w) (judge' y.inner w) p).2, ap suc a.1, a.2)
    left-alike (bad m) p = (a.0, a.1, refl)
    left-alike (refused n q) p = a

  call-alike : (x : State S) (y : State R) → Alike Like x y → (c : Call)
      → Alike Like (after_call move x c (reply judge' wires y (word_of c))) (after_call move' y c (reply judge' wires y (word_of c)))
  call-alike x y a (look w) = a
  call-alike x y a (take w) = left-alike x y a w (reply judge' wires y w) refl

  pub same-replies : (cs : List Call) (x : State S) (y : State R) → Alike Like x y → replies_from judge move wires x cs ≡ replies_from judge' move' wires y cs
  unfolding replies_from
  same-replies [] x y a = refl
  same-replies (c ∷ cs) x y a =
      ap (λ k. k ∷ replies_from judge move wires (after_call move x c k) cs) (same-reply x y a (word_of c))
      ∙ ap (λ l. reply judge' wires y (word_of c) ∷ l) (same-replies cs _ _ (call-alike x y a c))

  pub same-states : (cs : List Call) (x : State S) (y : State R) → Alike Like x y → Alike Like (state_from judge move wires x cs) (state_from judge' move' wires y cs)
  unfolding state_from
  same-states [] x y a = a
  same-states (c ∷ cs) x y a =
      subst (λ k. Alike Like (state_from judge move wires (after_call move x c k) cs) (state_from judge' move' wires (after_call move' y c (reply judge' wires y (word_of c))) cs))
      (sym (same-reply x y a (word_of c))) (same-states cs _ _ (call-alike x y a c))
