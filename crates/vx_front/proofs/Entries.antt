-- The entries of one caller, and beginnings of lists.
use Rattle.std.proofs.Common.{◌≡◌, ◌≢◌, ℕ, ◌<◌, ◌≤◌, Bool, true, false, cond, eqb, ltb, List, [], ◌∷◌, ◌++◌, length, refl, sym, ap, ◌∙◌, append_assoc, eq-eqb, ne_eqb, arith}
use Rattle.std.proofs.lemmas.List.{append-nil}
use Rattle.std.proofs.lemmas.Bool.Decides.{nat_tests}
use mathlib.Core.List.{IsPrefix}
use Rattle.vx_front.specs.declared.views.Entry.{Entry}
use Rattle.vx_front.specs.Views.{calls_by, longer_of}

pub calls-push : (n : ℕ) (es : List Entry) (e : Entry) → e.caller ≡ n → calls_by n (es ++ e ∷ []) ≡ calls_by n es ++ e ∷ []
calls-push n [] e is = ap (λ b. cond b (e ∷ []) []) (eq-eqb e.caller n is)
calls-push n (x ∷ xs) e is = pick (calls-push n xs e is) (eqb x.caller n)
  where
    pick : calls_by n (xs ++ e ∷ []) ≡ calls_by n xs ++ e ∷ [] → (b : Bool) → cond b (x ∷ calls_by n (xs ++ e ∷ [])) (calls_by n (xs ++ e ∷ [])) ≡ cond b (x ∷ calls_by n xs) (calls_by n xs) ++ e ∷ []
    pick r true = ap (λ l. x ∷ l) r
    pick r false = r

pub calls-push_other : (n : ℕ) (es : List Entry) (e : Entry) → e.caller ≢ n → calls_by n (es ++ e ∷ []) ≡ calls_by n es
calls-push_other n [] e is = ap (λ b. cond b (e ∷ []) []) (ne_eqb e.caller n is)
calls-push_other n (x ∷ xs) e is = pick (calls-push_other n xs e is) (eqb x.caller n)
  where
    pick : calls_by n (xs ++ e ∷ []) ≡ calls_by n xs → (b : Bool) → cond b (x ∷ calls_by n (xs ++ e ∷ [])) (calls_by n (xs ++ e ∷ [])) ≡ cond b (x ∷ calls_by n xs) (calls_by n xs)
    pick r true = ap (λ l. x ∷ l) r
    pick r false = r

pub calls-append : (n : ℕ) (xs ys : List Entry) → calls_by n (xs ++ ys) ≡ calls_by n xs ++ calls_by n ys
calls-append n [] ys = refl
calls-append n (x ∷ xs) ys = pick (calls-append n xs ys) (eqb x.caller n)
  where
    pick : calls_by n (xs ++ ys) ≡ calls_by n xs ++ calls_by n ys → (b : Bool) → cond b (x ∷ calls_by n (xs ++ ys)) (calls_by n (xs ++ ys)) ≡ cond b (x ∷ calls_by n xs) (calls_by n xs) ++ calls_by n ys
    pick r true = ap (λ l. x ∷ l) r
    pick r false = r

pub calls_prefix : (n : ℕ) (xs ys : List Entry) → IsPrefix xs ys → IsPrefix (calls_by n xs) (calls_by n ys)
calls_prefix n xs ys p = (calls_by n p.0, sym (calls-append n xs p.0) ∙ ap (calls_by n) p.1)

pub prefix_trans : {A : Type 0} (xs ys zs : List A) → IsPrefix xs ys → IsPrefix ys zs → IsPrefix xs zs
prefix_trans xs ys zs p q = (p.0 ++ q.0, sym (append_assoc xs p.0 q.0) ∙ (ap (λ w. w ++ q.0) p.1 ∙ q.1))

pub prefix_same : {A : Type 0} (xs : List A) → IsPrefix xs xs
prefix_same xs = ([], append-nil xs)

pub prefix_of_nil : {A : Type 0} (xs : List A) → IsPrefix xs [] → xs ≡ []
prefix_of_nil [] p = refl
prefix_of_nil (x ∷ xs) p = absurd (cc (p.1))

pub nil_of_length : {A : Type 0} (xs : List A) → length xs ≤ 0 → xs ≡ []
nil_of_length [] h = refl
nil_of_length (x ∷ xs) h = absurd (omega arith)

pub longer_prefix : (xs ys zs : List Entry) → IsPrefix xs zs → IsPrefix ys zs → IsPrefix (longer_of xs ys) zs
longer_prefix xs ys zs p q = pick (ltb (length xs) (length ys))
  where
    pick : (b : Bool) → IsPrefix (cond b ys xs) zs
    pick true = q
    pick false = p

-- of two beginnings of one list the shorter begins the longer
pub prefix_shorter : {A : Type 0} (xs ys zs : List A) → IsPrefix xs zs → IsPrefix ys zs → length xs ≤ length ys → IsPrefix xs ys
prefix_shorter [] ys zs p q le = (ys, refl)
prefix_shorter (x ∷ xs) [] zs p q le = absurd (omega arith)
prefix_shorter (x ∷ xs) (y ∷ ys) [] p q le = absurd (cc (p.1))
prefix_shorter (x ∷ xs) (y ∷ ys) (z ∷ zs) p q le =
    let heads : x ≡ y = cc (p.1, q.1) in
    let rest = prefix_shorter xs ys zs (p.0, cc (p.1)) (q.0, cc (q.1)) (omega arith) in
    (rest.0, cc (heads, rest.1))

-- a beginning that is as long as the whole is the whole
pub prefix_whole : {A : Type 0} (xs ys : List A) → IsPrefix xs ys → length ys ≤ length xs → xs ≡ ys
prefix_whole [] [] p le = refl
prefix_whole [] (y ∷ ys) p le = absurd (omega arith)
prefix_whole (x ∷ xs) [] p le = absurd (cc (p.1))
prefix_whole (x ∷ xs) (y ∷ ys) p le = let rest = prefix_whole xs ys (p.0, cc (p.1)) (omega arith) in cc (p.1, rest)

-- the longer of two beginnings of one list has both
pub longer_of_both : (xs ys zs : List Entry) → IsPrefix xs zs → IsPrefix ys zs → IsPrefix xs (longer_of xs ys) × IsPrefix ys (longer_of xs ys)
longer_of_both xs ys zs p q = pick (ltb (length xs) (length ys)) refl
  where
    pick : (b : Bool) → ltb (length xs) (length ys) ≡ b → IsPrefix xs (cond b ys xs) × IsPrefix ys (cond b ys xs)
    pick true is = (let l : length xs < length ys = grind (arith, nat_tests) in (prefix_shorter xs ys zs p q (omega arith), prefix_same ys))
    pick false is = (let l : length ys ≤ length xs = grind (arith, nat_tests) in (prefix_same xs, prefix_shorter ys xs zs q p l))

pub prefix_length : {A : Type 0} (xs ys : List A) → IsPrefix xs ys → length xs ≤ length ys
prefix_length [] ys p = omega arith
prefix_length (x ∷ xs) [] p = absurd (cc (p.1))
prefix_length (x ∷ xs) (y ∷ ys) p = let r = prefix_length xs ys (p.0, cc (p.1)) in omega arith
