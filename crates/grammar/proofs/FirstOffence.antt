-- "first offending word, or word count if they end early": where the layout faults is exactly there, said of grammars and their
-- words. So the place in refusal 4 means what document 01 says, for whatever reader is proved to give the layout's answer.
-- Each reader of the layout either stops at a word (`stops`): what came before can be completed, and with that word it cannot,
-- whatever follows; or it goes on to the next reader (`goes_on`), for which the same holds by induction on the words. What can be
-- completed is read as some grammar, so it begins that grammar's words; and words of a grammar are read, so none begin with what
-- always faults. Two places of this kind are one: of two, up to the later the words begin a grammar's, and up to the word after
-- the earlier they do not.
-- Assumes nothing.
use mathlib.Core.Path.{◌≡◌, refl, ap, sym, ◌∙◌}
use mathlib.Core.Bool.{Bool, true, false, ◌&&◌, and-eq-true_iff}
use mathlib.Core.Logic.{◌↔◌}
use mathlib.Core.List.{List, [], ◌∷◌, ◌++◌, append-nil, append_assoc}
use Prim.Native.Nat.{ℕ, zero, suc, ◌+◌, ◌≤◌, ◌<◌}
use native.Mathlib.Omega.{arith}
use lib.Dec.{ltb, leb}
use lib.ListN.{length, take, drop, replicate, take-append-drop}
use lib.Seq.{take_all, take-take}
use native.Mathlib.Decide.{dec_lt}
use borrow.Author.Tests.{ltb-true, lt-ltb}
use Rattle.grammar.specs.Words.{Grammar, Rule, ◌⟶◌, Judged, reads, faults, test, Body, body, no_symbol, with_symbol}
use Rattle.grammar.specs.Words.{FaultAt, Viable, ends_early, offends, words}
use Rattle.grammar.specs.Words.{with_left, with_head, lefts, counts, symbols, layout}
use Rattle.grammar.proofs.ConstructorsDiffer.{reads_not_faults}
use Rattle.grammar.proofs.LayoutExact.{layout_exact}

-- A reader R, at the place p of the words ws, faults at q: the words up to q can be completed to some that it reads, wherever
-- they begin; and any words that are the same up to the word at q, that word too, it faults there.
record Faulty {A : Type 0} (R : List ℕ → ℕ → Judged A) (ws : List ℕ) (p q : ℕ) : Type 0 where
  i : ℕ
  at : q ≡ p + i
  fits : i ≤ length ws
  vs : List ℕ
  x : A
  completed : (p' : ℕ) → R (take i ws ++ vs) p' ≡ reads x
  dead : i < length ws → (us : List ℕ) → R (take (suc i) ws ++ us) p ≡ faults q

faults_inj : {A : Type 0} {p q : ℕ} → ◌≡◌ {A = Judged A} (faults p) (faults q) → p ≡ q
faults_inj e = cc

-- it stops at the first word: vs complete what came before, and with that word it faults
stops : {A : Type 0} {x : A} (R : List ℕ → ℕ → Judged A) (ws : List ℕ) (p q : ℕ) (vs : List ℕ) →
    ◌≡◌ {A = Judged A} (faults p) (faults q) → ((p' : ℕ) → R vs p' ≡ reads x) →
    (0 < length ws → (us : List ℕ) → R (take 1 ws ++ us) p ≡ faults p) → Faulty R ws p q
stops {x = x} R ws p q vs e completed dead =
    let same = faults_inj e in
    record {
      i = 0;
      at = omega arith;
      fits = omega arith;
      vs = vs;
      x = x;
      completed = completed;
      dead = λ h us. rw (← same) (dead h us);
    }

-- F hands on what another reader gives: a fault as it is, and what is read as f of it
record HandsOn {A B : Type 0} (F : Judged B → Judged A) (f : B → A) : Type 0 where
  of_reads : (x : B) → F (reads x) ≡ reads (f x)
  of_faults : (q : ℕ) → F (faults q) ≡ faults q

fault_of : {A B : Type 0} {F : Judged B → Judged A} {f : B → A} → HandsOn F f → (r : Judged B) (q : ℕ) → F r ≡ faults q →
    r ≡ faults q
fault_of hands (reads x) q e = absurd (reads_not_faults (sym (hands.of_reads x) ∙ e))
fault_of hands (faults p) q e = ap faults (faults_inj (sym (hands.of_faults p) ∙ e))

-- it goes on to the reader R', after the word w
goes_on : {A B : Type 0} {F : Judged B → Judged A} {f : B → A} → HandsOn F f →
    (R : List ℕ → ℕ → Judged A) (R' : List ℕ → ℕ → Judged B) (w : ℕ) (ws : List ℕ) (p q : ℕ) →
    ((us : List ℕ) (p' : ℕ) → R (w ∷ us) p' ≡ F (R' us (suc p'))) →
    (R' ws (suc p) ≡ faults q → Faulty R' ws (suc p) q) → F (R' ws (suc p)) ≡ faults q → Faulty R (w ∷ ws) p q
goes_on {A} {B} {F} {f} hands R R' w ws p q step later e = after (later (fault_of hands (R' ws (suc p)) q e))
  where
    after : Faulty R' ws (suc p) q → Faulty R (w ∷ ws) p q
    after h = record {
      i = suc h.i;
      at = omega (arith, h.at);
      fits = omega (arith, h.fits);
      vs = h.vs;
      x = f h.x;
      completed = λ p'. step (take h.i ws ++ h.vs) p' ∙ ap F (h.completed (suc p')) ∙ hands.of_reads h.x;
      dead = λ k us. step (take (suc h.i) ws ++ us) p ∙ ap F (h.dead (omega arith) us) ∙ hands.of_faults q;
    }

-- what the layout's readers hand on
same_hands : {A : Type 0} → HandsOn {A = A} {B = A} (λ r. r) (λ x. x)
same_hands = record { of_reads = λ x. refl; of_faults = λ q. refl }

left_of : ℕ → Body → List Rule
left_of w (body u rs) = (w ⟶ u) ∷ rs

left_hands : (w : ℕ) → HandsOn (with_left w) (left_of w)
unfolding left_of
left_hands w = record { of_reads = go; of_faults = λ q. refl }
  where
    go : (x : Body) → with_left w (reads x) ≡ reads (left_of w x)
    go (body u rs) = refl

symbol_of : ℕ → Body → Body
symbol_of w (body u rs) = body (w ∷ u) rs

symbol_hands : (w : ℕ) → HandsOn (with_symbol w) (symbol_of w)
unfolding symbol_of
symbol_hands w = record { of_reads = go; of_faults = λ q. refl }
  where
    go : (x : Body) → with_symbol w (reads x) ≡ reads (symbol_of w x)
    go (body u rs) = refl

count_hands : HandsOn no_symbol (λ rs. body [] rs)
count_hands = record { of_reads = λ x. refl; of_faults = λ q. refl }

last_hands : (w : ℕ) → HandsOn (λ r. with_symbol w (no_symbol r)) (λ rs. body (w ∷ []) rs)
last_hands w = record { of_reads = λ x. refl; of_faults = λ q. refl }

head_hands : (N T S : ℕ) → HandsOn (with_head N T S) (λ rs. record { N = N; T = T; start = S; rules = rs })
head_hands N T S = record { of_reads = λ x. refl; of_faults = λ q. refl }

module _ (N T : ℕ) (some_N : 0 < N) where
  -- the readers, as functions of words and place
  abbrev Lefts : ℕ → List ℕ → ℕ → Judged (List Rule)
  Lefts room us p = lefts us p room N T

  abbrev Counts : ℕ → List ℕ → ℕ → Judged Body
  Counts room us p = counts us p room N T

  abbrev Symbols : ℕ → ℕ → List ℕ → ℕ → Judged Body
  Symbols k room us p = symbols us k p room N T

  -- zeros complete a right side
  zeros : (k p room : ℕ) → symbols (0 ∷ replicate k 0) k p room N T ≡ reads (body (0 ∷ replicate k 0) [])
  unfolding lefts
  zeros zero p room = rw (lt-ltb 0 (N + T) (omega arith))
  zeros (suc k) p room = rw (lt-ltb 0 (N + T) (omega arith), zeros k (suc p) room)

  mutual
    unfolding lefts

    lefts-faults : (ws : List ℕ) (p room q : ℕ) → lefts ws p room N T ≡ faults q → Faulty (Lefts room) ws p q
    lefts-faults [] p room q e = absurd (reads_not_faults e)
    lefts-faults (w ∷ ws) p zero q e = stops (Lefts zero) (w ∷ ws) p q [] e (λ p'. refl) (λ h us. refl)
    lefts-faults (w ∷ ws) p (suc room) q e = go (λ e'. counts-faults ws (suc p) room q e') (ltb w N) refl e
      where
        go : (counts ws (suc p) room N T ≡ faults q → Faulty (Counts room) ws (suc p) q) → (b : Bool) → ltb w N ≡ b →
            test b p (with_left w (counts ws (suc p) room N T)) ≡ faults q → Faulty (Lefts (suc room)) (w ∷ ws) p q
        go later true t e =
            goes_on (left_hands w) (Lefts (suc room)) (Counts room) w ws p q (λ us p'. rw t) later e
        go later false t e = stops (Lefts (suc room)) (w ∷ ws) p q [] e (λ p'. refl) (λ h us. rw t)

    counts-faults : (ws : List ℕ) (p room q : ℕ) → counts ws p room N T ≡ faults q → Faulty (Counts room) ws p q
    counts-faults [] p room q e = stops (Counts room) [] p q (0 ∷ []) e (λ p'. refl) (λ h us. absurd (omega arith))
    counts-faults (zero ∷ ws) p room q e =
        goes_on count_hands (Counts room) (Lefts room) zero ws p q (λ us p'. refl) (λ e'. lefts-faults ws (suc p) room q e') e
    counts-faults (suc k ∷ ws) p room q e = go (λ e'. symbols-faults ws k (suc p) room q e') (ltb k 32) refl e
      where
        go : (symbols ws k (suc p) room N T ≡ faults q → Faulty (Symbols k room) ws (suc p) q) → (b : Bool) → ltb k 32 ≡ b →
            test b p (symbols ws k (suc p) room N T) ≡ faults q → Faulty (Counts room) (suc k ∷ ws) p q
        go later true t e = goes_on same_hands (Counts room) (Symbols k room) (suc k) ws p q (λ us p'. rw t) later e
        go later false t e = stops (Counts room) (suc k ∷ ws) p q (0 ∷ []) e (λ p'. refl) (λ h us. rw t)

    symbols-faults : (ws : List ℕ) (k p room q : ℕ) → symbols ws k p room N T ≡ faults q → Faulty (Symbols k room) ws p q
    symbols-faults [] k p room q e =
        stops (Symbols k room) [] p q (0 ∷ replicate k 0) e (λ p'. zeros k p' room) (λ h us. absurd (omega arith))
    symbols-faults (w ∷ ws) zero p room q e = go (λ e'. lefts-faults ws (suc p) room q e') (ltb w (N + T)) refl e
      where
        go : (lefts ws (suc p) room N T ≡ faults q → Faulty (Lefts room) ws (suc p) q) → (b : Bool) → ltb w (N + T) ≡ b →
            test b p (with_symbol w (no_symbol (lefts ws (suc p) room N T))) ≡ faults q →
            Faulty (Symbols zero room) (w ∷ ws) p q
        go later true t e = goes_on (last_hands w) (Symbols zero room) (Lefts room) w ws p q (λ us p'. rw t) later e
        go later false t e =
            stops (Symbols zero room) (w ∷ ws) p q (0 ∷ []) e (λ p'. zeros zero p' room) (λ h us. rw t)
    symbols-faults (w ∷ ws) (suc k) p room q e = go (λ e'. symbols-faults ws k (suc p) room q e') (ltb w (N + T)) refl e
      where
        go : (symbols ws k (suc p) room N T ≡ faults q → Faulty (Symbols k room) ws (suc p) q) → (b : Bool) →
            ltb w (N + T) ≡ b → test b p (with_symbol w (symbols ws k (suc p) room N T)) ≡ faults q →
            Faulty (Symbols (suc k) room) (w ∷ ws) p q
        go later true t e =
            goes_on (symbol_hands w) (Symbols (suc k) room) (Symbols k room) w ws p q (λ us p'. rw t) later e
        go later false t e =
            stops (Symbols (suc k) room) (w ∷ ws) p q (0 ∷ replicate (suc k) 0) e (λ p'. zeros (suc k) p' room) (λ h us. rw t)

-- what is asked of N
abbrev size_test : ℕ → Bool
size_test N = ltb 0 N && leb N 128

-- a word of the head that offends is faulted, whatever follows
bad_N : (N : ℕ) → size_test N ≡ false → (us : List ℕ) → layout (N ∷ us) ≡ faults 0
unfolding layout
bad_N N e [] = rw e
bad_N N e (T ∷ []) = rw e
bad_N N e (T ∷ S ∷ us) = rw e

bad_T : (N T : ℕ) → size_test N ≡ true → leb T 1024 ≡ false → (us : List ℕ) → layout (N ∷ T ∷ us) ≡ faults 1
unfolding layout
bad_T N T n e [] = rw (n, e)
bad_T N T n e (S ∷ us) = rw (n, e)

bad_S : (N T S : ℕ) → size_test N ≡ true → leb T 1024 ≡ true → ltb S N ≡ false → (us : List ℕ) →
    layout (N ∷ T ∷ S ∷ us) ≡ faults 2
unfolding layout
bad_S N T S n t e us = rw (n, t, e)

-- a head that passes
reads_head : (N T S : ℕ) → size_test N ≡ true → leb T 1024 ≡ true → ltb S N ≡ true → (us : List ℕ) →
    layout (N ∷ T ∷ S ∷ us) ≡ with_head N T S (lefts us 3 256 N T)
unfolding layout
reads_head N T S n t e us = rw (n, t, e)

-- the layout, past the words of the head that are in hand: the place does not matter
abbrev Layout0 : List ℕ → ℕ → Judged Grammar
Layout0 us p = layout us

abbrev Layout1 : ℕ → List ℕ → ℕ → Judged Grammar
Layout1 N us p = layout (N ∷ us)

abbrev Layout2 : ℕ → ℕ → List ℕ → ℕ → Judged Grammar
Layout2 N T us p = layout (N ∷ T ∷ us)

abbrev Layout3 : ℕ → ℕ → ℕ → List ℕ → ℕ → Judged Grammar
Layout3 N T S us p = layout (N ∷ T ∷ S ∷ us)

module _ (N q : ℕ) (n : size_test N ≡ true) where
  some_N : ltb 0 N ≡ true
  some_N = ((and-eq-true_iff (ltb 0 N) (leb N 128)).0 n).0

  -- the smallest grammar with this head
  bare : (T : ℕ) → leb T 1024 ≡ true → layout (N ∷ T ∷ 0 ∷ []) ≡ reads (record { N = N; T = T; start = 0; rules = [] })
  unfolding lefts
  bare T t = reads_head N T 0 n t some_N []

  -- the rules are read at place 3 and no other, so this is no case of `goes_on`
  after_S : (T S : ℕ) → leb T 1024 ≡ true → ltb S N ≡ true → (ws : List ℕ) → layout (N ∷ T ∷ S ∷ ws) ≡ faults q →
      Faulty (Layout3 N T S) ws 3 q
  after_S T S t s ws e =
      let fault = fault_of (head_hands N T S) (lefts ws 3 256 N T) q (sym (reads_head N T S n t s ws) ∙ e) in
      let h = lefts-faults N T (ltb-true 0 N some_N) ws 3 256 q fault in
      record {
        i = h.i;
        at = h.at;
        fits = h.fits;
        vs = h.vs;
        x = record { N = N; T = T; start = S; rules = h.x };
        completed = λ p. reads_head N T S n t s (take h.i ws ++ h.vs) ∙ ap (with_head N T S) (h.completed 3);
        dead = λ k us. reads_head N T S n t s (take (suc h.i) ws ++ us) ∙ ap (with_head N T S) (h.dead k us);
      }

  at_S : (T S : ℕ) (ws : List ℕ) → leb T 1024 ≡ true → (b : Bool) → ltb S N ≡ b → layout (N ∷ T ∷ S ∷ ws) ≡ faults q →
      Faulty (Layout2 N T) (S ∷ ws) 2 q
  at_S T S ws t true s e =
      goes_on same_hands (Layout2 N T) (Layout3 N T S) S ws 2 q (λ us p. refl) (λ e'. after_S T S t s ws e') e
  at_S T S ws t false s e =
      let e' = sym (bad_S N T S n t s ws) ∙ e in
      stops (Layout2 N T) (S ∷ ws) 2 q (0 ∷ []) e' (λ p. bare T t) (λ h us. bad_S N T S n t s us)

  after_T : (T : ℕ) (ws : List ℕ) → leb T 1024 ≡ true → layout (N ∷ T ∷ ws) ≡ faults q → Faulty (Layout2 N T) ws 2 q
  unfolding layout
  after_T T [] t e = stops (Layout2 N T) [] 2 q (0 ∷ []) (rw (n, t) at e) (λ p. bare T t) (λ h us. absurd (omega arith))
  after_T T (S ∷ ws) t e = at_S T S ws t (ltb S N) refl e

  at_T : (T : ℕ) (ws : List ℕ) → (b : Bool) → leb T 1024 ≡ b → layout (N ∷ T ∷ ws) ≡ faults q → Faulty (Layout1 N) (T ∷ ws) 1 q
  at_T T ws true t e = goes_on same_hands (Layout1 N) (Layout2 N T) T ws 1 q (λ us p. refl) (λ e'. after_T T ws t e') e
  at_T T ws false t e =
      let e' = sym (bad_T N T n t ws) ∙ e in
      stops (Layout1 N) (T ∷ ws) 1 q (0 ∷ 0 ∷ []) e' (λ p. bare 0 refl) (λ h us. bad_T N T n t us)

  after_N : (ws : List ℕ) → layout (N ∷ ws) ≡ faults q → Faulty (Layout1 N) ws 1 q
  unfolding layout
  after_N [] e = stops (Layout1 N) [] 1 q (0 ∷ 0 ∷ []) (rw n at e) (λ p. bare 0 refl) (λ h us. absurd (omega arith))
  after_N (T ∷ ws) e = at_T T ws (leb T 1024) refl e

layout_faulty : (ws : List ℕ) (q : ℕ) → layout ws ≡ faults q → Faulty Layout0 ws 0 q
unfolding layout lefts
layout_faulty [] q e = stops Layout0 [] 0 q (1 ∷ 0 ∷ 0 ∷ []) e (λ p. refl) (λ h us. absurd (omega arith))
layout_faulty (N ∷ ws) q e = at_N (size_test N) refl
  where
    at_N : (b : Bool) → size_test N ≡ b → Faulty Layout0 (N ∷ ws) 0 q
    at_N true n = goes_on same_hands Layout0 (Layout1 N) N ws 0 q (λ us p. refl) (λ e'. after_N N q n ws e') e
    at_N false n =
        let e' = sym (bad_N N n ws) ∙ e in
        stops Layout0 (N ∷ ws) 0 q (1 ∷ 0 ∷ 0 ∷ []) e' (λ p. refl) (λ h us. bad_N N n us)

-- words that are read on to a grammar begin its words
to_viable : (us vs : List ℕ) (G : Grammar) → layout (us ++ vs) ≡ reads G → Viable us
to_viable us vs G e =
    let h = (layout_exact (us ++ vs) G).0 e in
    record { grammar = G; ok = h.0; more = vs; are = sym h.1 }

-- what begins viable words is viable
prefix_viable : (n : ℕ) {us : List ℕ} → Viable us → Viable (take n us)
prefix_viable n {us} v = record {
  grammar = v.grammar;
  ok = v.ok;
  more = drop n us ++ v.more;
  are = v.are ∙ ap (◌++ v.more) (sym (take-append-drop n us)) ∙ append_assoc (take n us) (drop n us) v.more;
}

-- a fault stands at the first offending word, or at the end
pub layout-faults : (ws : List ℕ) (q : ℕ) → layout ws ≡ faults q → FaultAt ws q
layout-faults ws q e = go (dec_lt h.i (length ws))
  where
    h : Faulty Layout0 ws 0 q
    h = layout_faulty ws q e

    same : q ≡ h.i
    same = omega (arith, h.at)

    begins : Viable (take h.i ws)
    begins = to_viable (take h.i ws) h.vs h.x (h.completed 0)

    offends_there : h.i < length ws → ¬ Viable (take (suc h.i) ws)
    offends_there k v =
        let read = (layout_exact (words v.grammar) v.grammar).1 (v.ok, refl) in
        reads_not_faults (sym read ∙ ap layout v.are ∙ h.dead k v.more)

    go : Dec (h.i < length ws) → FaultAt ws q
    go (yes k) = rw same (offends k begins (offends_there k))
    go (no k) =
        let l : h.i ≡ length ws = omega (arith, h.fits) in
        let all : take h.i ws ≡ ws = take_all h.i ws (omega arith) in
        ends_early (same ∙ l) (rw all at begins) (λ G ok w. reads_not_faults (sym ((layout_exact ws G).1 (ok, sym w)) ∙ e))

-- the two kinds of fault in one
record Edge (ws : List ℕ) (p : ℕ) : Type 0 where
  fits : p ≤ length ws
  begins : Viable (take p ws)
  ends : p < length ws → ¬ Viable (take (suc p) ws)

edge : {ws : List ℕ} {p : ℕ} → FaultAt ws p → Edge ws p
edge (offends h v n) = record { fits = omega arith; begins = v; ends = λ k. n }
edge {ws} {p} (ends_early e v n) = record {
  fits = omega arith;
  begins = rw (take_all p ws (omega arith)) v;
  ends = λ k. absurd (omega arith);
}

not_before : {ws : List ℕ} {p q : ℕ} → Edge ws p → Edge ws q → ¬ (p < q)
not_before {ws} {p} {q} a b h =
    a.ends (omega (arith, b.fits)) (rw (take-take (suc p) q ws h) at (prefix_viable (suc p) b.begins))

-- words have one fault at most
pub fault_unique : {ws : List ℕ} {p q : ℕ} → FaultAt ws p → FaultAt ws q → p ≡ q
fault_unique f g = omega (arith, not_before (edge f) (edge g), not_before (edge g) (edge f))

-- EXACT: the layout faults at p exactly where p is the place of refusal 4
pub layout-faults_exact : (ws : List ℕ) (p : ℕ) → (layout ws ≡ faults p) ↔ FaultAt ws p
layout-faults_exact ws p = (layout-faults ws p, λ f. go f (layout ws) refl)
  where
    not_reads : FaultAt ws p → (G : Grammar) → layout ws ≡ reads G → ⊥
    not_reads (offends h v n) G e =
        let k = (layout_exact ws G).0 e in
        let begun : Viable ws = record { grammar = G; ok = k.0; more = []; are = sym k.1 ∙ sym (append-nil ws) } in
        n (prefix_viable (suc p) begun)
    not_reads (ends_early l v n) G e = let k = (layout_exact ws G).0 e in n G k.0 (sym k.1)

    go : FaultAt ws p → (r : Judged Grammar) → layout ws ≡ r → layout ws ≡ faults p
    go f (reads G) e = absurd (not_reads f G e)
    go f (faults q) e = rw (fault_unique f (layout-faults ws q e)) e
