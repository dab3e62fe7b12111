-- The items of a follow list, read one by one.
use Rattle.wq_text.proofs.Common.{◌≡◌, ℕ, ◌+◌, ◌<◌, ◌≤◌, List, [], ◌∷◌, ◌++◌, length, get_or, drop, map, Result, Ok, Err, refl, sym, ap, subst, ◌∙◌}
use Rattle.wq_text.proofs.Common.{append_assoc, append-nil, at_drop_more, at_drop_all, FaultKind, LineError, each, word_and_at_most, one_and_at_most, ◌>>=◌}
use Rattle.wq_text.proofs.Common.{LineFailsAs, Bor}
use Rattle.wq_text.specs.declared.fault.LineError.TheVariants as line_errors

-- the numbers of the words ws, behind those that were read
abbrev pub behind : (List ℕ → Result ℕ FaultKind) → List ℕ → List (Bor (List ℕ)) → Result (List ℕ) FaultKind
behind read done ws = each read (map (λ w. w.now) ws) >>= λ xs. Ok (done ++ xs)

joined : (done new : List ℕ) (x : ℕ) (told : Result (List ℕ) FaultKind) → new ≡ done ++ x ∷ []
    → ((told >>= λ xs. Ok (x ∷ xs)) >>= λ ys. Ok (done ++ ys)) ≡ (told >>= λ xs. Ok (new ++ xs))
joined done new x (Ok xs) same = ap (λ ys. Ok ys) (sym (ap (λ n. n ++ xs) same ∙ append_assoc done (x ∷ []) xs))
joined done new x (Err k) same = refl

first_read : (read : List ℕ → Result ℕ FaultKind) (done new : List ℕ) (x : ℕ) (w : Bor (List ℕ)) (ws : List (Bor (List ℕ))) → read w.now ≡ Ok x
    → new ≡ done ++ x ∷ [] → behind read done (w ∷ ws) ≡ behind read new ws
unfolding each
first_read read done new x w ws given same =
    ap (λ r. (r >>= λ y. each read (map (λ v. v.now) ws) >>= λ xs. Ok (y ∷ xs)) >>= λ ys. Ok (done ++ ys)) given
    ∙ joined done new x (each read (map (λ v. v.now) ws)) same

first_fails : (read : List ℕ → Result ℕ FaultKind) (done : List ℕ) (e : LineError) (w : Bor (List ℕ)) (ws : List (Bor (List ℕ)))
    → LineFailsAs e (read w.now) → LineFailsAs e (behind read done (w ∷ ws))
unfolding each
first_fails read done line_errors.Memory w ws given = tt
first_fails read done (line_errors.Fault k) w ws given =
    ap (λ r. (r >>= λ y. each read (map (λ v. v.now) ws) >>= λ xs. Ok (y ∷ xs)) >>= λ ys. Ok (done ++ ys)) given

alone : (told : Result (List ℕ) FaultKind) → told ≡ (told >>= λ xs. Ok ([] ++ xs))
alone (Ok xs) = refl
alone (Err k) = refl

pub behind-nothing : (read : List ℕ → Result ℕ FaultKind) (done : List ℕ) (ws : List (Bor (List ℕ))) → done ≡ []
    → each read (map (λ w. w.now) ws) ≡ behind read done (drop 0 ws)
behind-nothing read done ws none = alone (each read (map (λ w. w.now) ws)) ∙ ap (λ n. behind read n ws) (sym none)

pub behind-more : (read : List ℕ → Result ℕ FaultKind) (done new : List ℕ) (x : ℕ) (ws : List (Bor (List ℕ))) (i : ℕ) (d : Bor (List ℕ)) → i < length ws
    → read (get_or ws i d).now ≡ Ok x → new ≡ done ++ x ∷ [] → behind read done (drop i ws) ≡ behind read new (drop (i + 1) ws)
behind-more read done new x ws i d lt given same =
    at_drop_more (behind read done) ws i d lt ∙ first_read read done new x (get_or ws i d) (drop (i + 1) ws) given same

pub behind-fails : (read : List ℕ → Result ℕ FaultKind) (done : List ℕ) (e : LineError) (ws : List (Bor (List ℕ))) (i : ℕ) (d : Bor (List ℕ))
    (all : Result (List ℕ) FaultKind) → i < length ws → LineFailsAs e (read (get_or ws i d).now) → all ≡ behind read done (drop i ws) → LineFailsAs e all
behind-fails read done e ws i d all lt given told =
    let P : Result (List ℕ) FaultKind → Type 0 = λ r. LineFailsAs e r in
    subst P (sym (told ∙ at_drop_more (behind read done) ws i d lt)) (first_fails read done e (get_or ws i d) (drop (i + 1) ws) given)

pub behind-all : (read : List ℕ → Result ℕ FaultKind) (done : List ℕ) (ws : List (Bor (List ℕ))) (i : ℕ) → length ws ≤ i
    → behind read done (drop i ws) ≡ Ok done
unfolding each
behind-all read done ws i le = at_drop_all (behind read done) ws i le ∙ ap (λ xs. Ok xs) (append-nil done)

after_both : (read : List ℕ → Result ℕ FaultKind) (ws : List (List ℕ)) (w : List ℕ × List (List ℕ)) (x : ℕ) → word_and_at_most 4 ws ≡ Ok w
    → read w.0 ≡ Ok x → one_and_at_most 4 read ws ≡ (each read w.1 >>= λ xs. Ok (x, xs))
after_both read ws w x words given =
    ap (λ r. r >>= λ v. read v.0 >>= λ y. each read v.1 >>= λ ys. Ok (y, ys)) words
    ∙ ap (λ r. r >>= λ y. each read w.1 >>= λ ys. Ok (y, ys)) given

pub one_and_all : (read : List ℕ → Result ℕ FaultKind) (ws : List (List ℕ)) (w : List ℕ × List (List ℕ)) (x : ℕ) (xs : List ℕ)
    → word_and_at_most 4 ws ≡ Ok w → read w.0 ≡ Ok x → each read w.1 ≡ Ok xs → one_and_at_most 4 read ws ≡ Ok (x, xs)
one_and_all read ws w x xs words given all = after_both read ws w x words given ∙ ap (λ r. r >>= λ ys. Ok (x, ys)) all

pub one_and_fault : (read : List ℕ → Result ℕ FaultKind) (ws : List (List ℕ)) (w : List ℕ × List (List ℕ)) (x : ℕ) (e : LineError)
    → word_and_at_most 4 ws ≡ Ok w → read w.0 ≡ Ok x → LineFailsAs e (each read w.1) → LineFailsAs e (one_and_at_most 4 read ws)
one_and_fault read ws w x line_errors.Memory words given failed = tt
one_and_fault read ws w x (line_errors.Fault k) words given failed = after_both read ws w x words given ∙ ap (λ r. r >>= λ ys. Ok (x, ys)) failed
