-- The steps of the machine.
use Rattle.std.proofs.Common.{◌≡◌, ℕ, ◌+◌, ◌≤◌, List, [], ◌∷◌, ◌++◌, length, refl, ap, sym, ◌∙◌, subst, arith, append_assoc, append-nil}
use Rattle.cb_expand.specs.declared.mode.Mode.{Mode}
use Rattle.cb_paste.specs.Shades.{Shaded}
use Rattle.cb_expand.specs.Heads.{Named, Insertion, Stands, Calls, head, put}
use Rattle.cb_expand.specs.Expansion.{Expands, ends, stands, calls, ExpandAll, none, each}
use Rattle.cb_expand.specs.inner.Machine.{Pending, State, At, Between, with_out, with_left, Ends, whole, within, EndsBetween, resumed, Completes, Steps, start}
use Rattle.cb_expand.proofs.Unique.{by_this_head, no_tokens, by_all}

module _ (ms : Named) (mode : Mode) where
  pub step_none : (s : State) → Steps ms mode s s 0
  step_none s = record {
    forth = λ final n h. (n, h, omega arith);
    back = λ final m h. (let e : m ≡ 0 + m = omega arith in subst (λ n. Completes ms mode s final n) e h);
  }

  pub step_more : (s t u : State) (j k : ℕ) → Steps ms mode s t j → Steps ms mode t u k → Steps ms mode s u (j + k)
  step_more s t u j k a b = record {
    forth = λ final n h.
        let x = a.forth final n h in
        let y = b.forth final x.0 x.1 in
        (y.0, y.1, omega (arith, x.2, y.2));
    back = λ final m h.
        let e : j + (k + m) ≡ j + k + m = omega arith in
        subst (λ n. Completes ms mode s final n) e (a.back final (k + m) (b.back final m h));
  }

  costs_none : (s : State) (final : List Shaded) (m : ℕ) → Completes ms mode s final m → Completes ms mode s final (0 + m)
  costs_none s final m h = let e : m ≡ 0 + m = omega arith in subst (λ n. Completes ms mode s final n) e h

  ends_alone : {ts final : List Shaded} {n : ℕ} → Ends ms mode [] ts [] final n → Expands ms mode ts final n
  ends_alone {ts} {n = n} (whole x q) = subst (λ o. Expands ms mode ts o n) (sym q) x

  pub step_end : (ts out : List Shaded) (used : ℕ) → Steps ms mode (start ts) (At [] [] out) used → Expands ms mode ts out used
  step_end ts out used h =
      let e : used + 0 ≡ used = omega arith in
      let x : Ends ms mode [] ts [] out (used + 0) = h.back out 0 (whole ends (sym (append-nil out))) in
      ends_alone (subst (λ n. Ends ms mode [] ts [] out n) e x)

  -- a token that stands
  module _ (t u : Shaded) (ts rest : List Shaded) (e : head ms mode t ts ≡ Stands u rest) where
    stands_forth : (ps : List Pending) (out final : List Shaded) (n : ℕ) → Ends ms mode ps (t ∷ ts) out final n → Ends ms mode ps rest (out ++ u ∷ []) final n
    stands_forth ps out final n (whole x q) =
        let h = by_this_head _ e x in
        whole h.2 (q ∙ (ap (λ o. out ++ o) h.1 ∙ sym (append_assoc out (u ∷ []) h.0)))
    stands_forth ps out final n (within {p = p} {ps = ps'} {o = o} {m = m} x y q) =
        let h = by_this_head _ e x in
        let w : out ++ o ≡ (out ++ u ∷ []) ++ h.0 = ap (λ o. out ++ o) h.1 ∙ sym (append_assoc out (u ∷ []) h.0) in
        within h.2 (subst (λ o. EndsBetween ms mode (with_out p o) ps' final m) w y) q

    stands_back : (ps : List Pending) (out final : List Shaded) (n : ℕ) → Ends ms mode ps rest (out ++ u ∷ []) final n → Ends ms mode ps (t ∷ ts) out final n
    stands_back ps out final n (whole {o = o} x q) = whole (stands e x) (q ∙ append_assoc out (u ∷ []) o)
    stands_back ps out final n (within {p = p} {ps = ps'} {o = o} {m = m} x y q) =
        within (stands e x) (subst (λ o. EndsBetween ms mode (with_out p o) ps' final m) (append_assoc out (u ∷ []) o) y) q

    pub step_stands : (ps : List Pending) (out : List Shaded) → Steps ms mode (At ps (t ∷ ts) out) (At ps rest (out ++ u ∷ [])) 0
    step_stands ps out = record {
      forth = λ final n h. (n, stands_forth ps out final n h, omega arith);
      back = λ final n h. costs_none (At ps (t ∷ ts) out) final n (stands_back ps out final n h);
    }

  -- the name of a call
  module _ (t : Shaded) (ts : List Shaded) (i : Insertion) (shown : List (List Shaded)) (rest : List Shaded) (e : head ms mode t ts ≡ Calls i shown rest) where
    called : List Shaded → Pending
    called out = record { insertion = i; rest = rest; outs = []; left = shown; out = out }

    calls_forth : (ps : List Pending) (out final : List Shaded) (n : ℕ) → Ends ms mode ps (t ∷ ts) out final n → EndsBetween ms mode (called out) ps final n
    unfolding called
    calls_forth ps out final n (whole x q) =
        let h = by_this_head _ e x in
        resumed h.3 (whole h.4 q) h.5
    calls_forth ps out final n (within x y q) =
        let h = by_this_head _ e x in
        resumed h.3 (within h.4 y refl) (omega (arith, q, h.5))

    back_by : (ps : List Pending) (out final : List Shaded) (outs : List (List Shaded)) (k m n : ℕ) → ExpandAll ms mode shown outs k
        → Ends ms mode ps (put i outs ++ rest) out final m → n ≡ k + (1 + length (put i outs)) + m → Ends ms mode ps (t ∷ ts) out final n
    back_by ps out final outs k m n a (whole {o = o} x q) r = subst (λ n. Ends ms mode [] (t ∷ ts) out final n) (sym r) (whole (calls e a x) q)
    back_by ps out final outs k m n a (within x y q) r = within (calls e a x) y (omega (arith, r, q))

    calls_back : (ps : List Pending) (out final : List Shaded) (n : ℕ) → EndsBetween ms mode (called out) ps final n → Ends ms mode ps (t ∷ ts) out final n
    unfolding called
    calls_back ps out final n (resumed a z r) = back_by ps out final _ _ _ n a z r

    pub step_calls : (ps : List Pending) (out : List Shaded)
        → Steps ms mode (At ps (t ∷ ts) out) (Between (record { insertion = i; rest = rest; outs = []; left = shown; out = out }) ps) 0
    unfolding called
    step_calls ps out = record {
      forth = λ final n h. (n, calls_forth ps out final n h, omega arith);
      back = λ final n h. costs_none (At ps (t ∷ ts) out) final n (calls_back ps out final n h);
    }

  -- an argument that is expanded
  module _ (p : Pending) (ps : List Pending) (out : List Shaded) where
    argument_forth : (final : List Shaded) (n : ℕ) → Ends ms mode (p ∷ ps) [] out final n → EndsBetween ms mode (with_out p out) ps final n
    argument_forth final n (within {o = o} {m = m} x y q) =
        let h = no_tokens x in
        let w : out ++ o ≡ out = ap (λ o. out ++ o) h.0 ∙ append-nil out in
        let r : m ≡ n = omega (arith, q, h.1) in
        subst (λ n. EndsBetween ms mode (with_out p out) ps final n) r (subst (λ o. EndsBetween ms mode (with_out p o) ps final m) w y)

    argument_back : (final : List Shaded) (n : ℕ) → EndsBetween ms mode (with_out p out) ps final n → Ends ms mode (p ∷ ps) [] out final n
    argument_back final n y =
        within ends (subst (λ o. EndsBetween ms mode (with_out p o) ps final n) (sym (append-nil out)) y) (omega arith)

    pub step_argument : Steps ms mode (At (p ∷ ps) [] out) (Between (with_out p out) ps) 0
    step_argument = record {
      forth = λ final n h. (n, argument_forth final n h, omega arith);
      back = λ final n h. costs_none (At (p ∷ ps) [] out) final n (argument_back final n h);
    }

  -- the next argument
  module _ (p : Pending) (ps : List Pending) (a : List Shaded) (more : List (List Shaded)) where
    next_forth : (final : List Shaded) (n : ℕ) → EndsBetween ms mode (with_left p (a ∷ more)) ps final n → Ends ms mode (with_left p more ∷ ps) a [] final n
    next_forth final n (resumed {outs = outs} {m = m} all z q) =
        let h = by_all all in
        let w : p.outs ++ outs ≡ (p.outs ++ h.0 ∷ []) ++ h.1 = ap (λ os. p.outs ++ os) h.6 ∙ sym (append_assoc p.outs (h.0 ∷ []) h.1) in
        let z' = subst (λ os. Ends ms mode ps (put p.insertion os ++ p.rest) p.out final m) w z in
        let l = ap (λ os. length (put p.insertion os)) w in
        within h.4 (resumed h.5 z' refl) (omega (arith, q, h.7, l))

    next_back : (final : List Shaded) (n : ℕ) → Ends ms mode (with_left p more ∷ ps) a [] final n → EndsBetween ms mode (with_left p (a ∷ more)) ps final n
    next_back final n (within {o = o} x (resumed {outs = outs} {m = i} all z r) q) =
        let w : (p.outs ++ o ∷ []) ++ outs ≡ p.outs ++ o ∷ outs = append_assoc p.outs (o ∷ []) outs in
        let z' = subst (λ os. Ends ms mode ps (put p.insertion os ++ p.rest) p.out final i) w z in
        let l = ap (λ os. length (put p.insertion os)) w in
        resumed (each x all) z' (omega (arith, q, r, l))

    pub step_next : Steps ms mode (Between (with_left p (a ∷ more)) ps) (At (with_left p more ∷ ps) a []) 0
    step_next = record {
      forth = λ final n h. (n, next_forth final n h, omega arith);
      back = λ final n h. costs_none (Between (with_left p (a ∷ more)) ps) final n (next_back final n h);
    }

  -- the tokens of a call whose arguments are expanded
  module _ (p : Pending) (ps : List Pending) where
    put_forth : (final : List Shaded) (n : ℕ) → EndsBetween ms mode (with_left p []) ps final n
        → (m : ℕ) × Ends ms mode ps (put p.insertion p.outs ++ p.rest) p.out final m × (n ≡ 1 + length (put p.insertion p.outs) + m)
    put_forth final n (resumed {outs = outs} {m = m} all z q) =
        let h = by_all all in
        let w : p.outs ++ outs ≡ p.outs = ap (λ os. p.outs ++ os) h.0 ∙ append-nil p.outs in
        let l = ap (λ os. length (put p.insertion os)) w in
        (m, subst (λ os. Ends ms mode ps (put p.insertion os ++ p.rest) p.out final m) w z, omega (arith, q, h.1, l))

    put_back : (final : List Shaded) (m : ℕ) → Ends ms mode ps (put p.insertion p.outs ++ p.rest) p.out final m
        → EndsBetween ms mode (with_left p []) ps final (1 + length (put p.insertion p.outs) + m)
    put_back final m z =
        let w = sym (append-nil p.outs) in
        let l = ap (λ os. length (put p.insertion os)) w in
        resumed none (subst (λ os. Ends ms mode ps (put p.insertion os ++ p.rest) p.out final m) w z) (omega (arith, l))

    pub step_put : Steps ms mode (Between (with_left p []) ps) (At ps (put p.insertion p.outs ++ p.rest) p.out) (1 + length (put p.insertion p.outs))
    step_put = record { forth = put_forth; back = put_back }

  -- each call whose arguments are being expanded costs one at least
  mutual
    pub costs : {ps : List Pending} {rest out final : List Shaded} {n : ℕ} → Ends ms mode ps rest out final n → length ps ≤ n
    costs (whole x q) = omega arith
    costs (within x y q) = let h = costs_between y in omega (arith, q)

    pub costs_between : {p : Pending} {ps : List Pending} {final : List Shaded} {n : ℕ} → EndsBetween ms mode p ps final n → length ps + 1 ≤ n
    costs_between (resumed all z q) = let h = costs z in omega (arith, q)
