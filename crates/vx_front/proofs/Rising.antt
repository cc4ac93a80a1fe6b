-- Fronts that rise, and those that were published.
use Rattle.std.proofs.Common.{◌≡◌, ℕ, ◌<◌, ◌≤◌, max, Bool, true, false, cond, ltb, List, [], ◌∷◌, ◌++◌, refl, ◌∙◌, subst, ⊎_elim, inl, inr, arith}
use Rattle.std.proofs.lemmas.Bool.Decides.{nat_tests}
use Rattle.vx_front.specs.Views.{last_of, with_front}
use Rattle.vx_front.specs.Rule.{RisesFrom, IsAmong, IsPublished, AllPublished}

among_more : (f : ℕ) (xs ys : List ℕ) → IsAmong f xs → IsAmong f (xs ++ ys)
among_more f [] ys h = absurd h
among_more f (x ∷ xs) ys h = ⊎_elim (λ (e : f ≡ x). inl e) (λ (r : IsAmong f xs). inr (among_more f xs ys r)) h

last_among : (x : ℕ) (xs : List ℕ) → IsAmong (last_of (x ∷ xs)) (x ∷ xs)
last_among x [] = inl refl
last_among x (y ∷ ys) = inr (last_among y ys)

pub last_published : (xs : List ℕ) → IsPublished xs (last_of xs)
last_published [] = inl refl
last_published (x ∷ xs) = inr (last_among x xs)

first_low : (n x : ℕ) (xs : List ℕ) → RisesFrom n (x ∷ xs) → x ≤ last_of (x ∷ xs)
first_low n x [] h = omega arith
first_low n x (y ∷ ys) h = let r = first_low x y ys h.1 in omega arith

among_low : (n f : ℕ) (xs : List ℕ) → RisesFrom n xs → IsAmong f xs → f ≤ last_of xs
among_low n f [] h i = absurd i
among_low n f (x ∷ []) h i = ⊎_elim (λ (e : f ≡ x). omega arith) (λ (z : ⊥). absurd z) i
among_low n f (x ∷ y ∷ ys) h i = ⊎_elim (λ (e : f ≡ x). (let r = first_low x y ys h.1 in omega arith)) (λ (r : IsAmong f (y ∷ ys)). among_low x f (y ∷ ys) h.1 r) i

pub published_low : (f : ℕ) (xs : List ℕ) → RisesFrom 0 xs → IsPublished xs f → f ≤ last_of xs
published_low f xs h s = ⊎_elim (λ (e : f ≡ 0). omega arith) (λ (i : IsAmong f xs). among_low 0 f xs h i) s

last-push : (xs : List ℕ) (k : ℕ) → last_of (xs ++ k ∷ []) ≡ k
last-push [] k = refl
last-push (x ∷ []) k = refl
last-push (x ∷ y ∷ ys) k = last-push (y ∷ ys) k

rises_push : (n k : ℕ) (xs : List ℕ) → RisesFrom n xs → last_of xs < k → n < k → RisesFrom n (xs ++ k ∷ [])
rises_push n k [] h l m = (m, tt)
rises_push n k (x ∷ []) h l m = (h.0, (l, tt))
rises_push n k (x ∷ y ∷ ys) h l m =
    let low = first_low x y ys h.1 in
    (h.0, rises_push x k (y ∷ ys) h.1 l (let a = h.1.0 in omega arith))

-- by whether the front is greater than the last

published_more_if : (b : Bool) (xs : List ℕ) (k f : ℕ) → IsPublished xs f → IsPublished (cond b (xs ++ k ∷ []) xs) f
published_more_if true xs k f s = ⊎_elim (λ (e : f ≡ 0). inl e) (λ (i : IsAmong f xs). inr (among_more f xs (k ∷ []) i)) s
published_more_if false xs k f s = s

pub published_more : (xs : List ℕ) (k f : ℕ) → IsPublished xs f → IsPublished (with_front xs k) f
published_more xs k f s = published_more_if (ltb (last_of xs) k) xs k f s

rises_more_if : (b : Bool) (xs : List ℕ) (k : ℕ) → ltb (last_of xs) k ≡ b → RisesFrom 0 xs → RisesFrom 0 (cond b (xs ++ k ∷ []) xs)
rises_more_if true xs k is h =
    let l : last_of xs < k = grind (arith, nat_tests) in
    rises_push 0 k xs h l (omega arith)
rises_more_if false xs k is h = h

pub rises_more : (xs : List ℕ) (k : ℕ) → RisesFrom 0 xs → RisesFrom 0 (with_front xs k)
rises_more xs k h = rises_more_if (ltb (last_of xs) k) xs k refl h

last_more_if : (b : Bool) (xs : List ℕ) (k : ℕ) → ltb (last_of xs) k ≡ b → last_of (cond b (xs ++ k ∷ []) xs) ≡ max (last_of xs) k
last_more_if true xs k is =
    let l : last_of xs < k = grind (arith, nat_tests) in
    last-push xs k ∙ omega arith
last_more_if false xs k is =
    let l : k ≤ last_of xs = grind (arith, nat_tests) in
    omega arith

pub last_more : (xs : List ℕ) (k : ℕ) → last_of (with_front xs k) ≡ max (last_of xs) k
last_more xs k = last_more_if (ltb (last_of xs) k) xs k refl

pub max_published : (xs : List ℕ) (f g : ℕ) → IsPublished xs f → IsPublished xs g → IsPublished xs (max f g)
max_published xs f g s t = pick (ltb f g) refl
  where
    pick : (b : Bool) → ltb f g ≡ b → IsPublished xs (max f g)
    pick true is = (let e : g ≡ max f g = (let l : f < g = grind (arith, nat_tests) in omega arith) in subst (IsPublished xs) e t)
    pick false is = (let e : f ≡ max f g = (let l : g ≤ f = grind (arith, nat_tests) in omega arith) in subst (IsPublished xs) e s)

pub all_published : (xs ys fs : List ℕ) → ((f : ℕ) → IsPublished xs f → IsPublished ys f) → AllPublished xs fs → AllPublished ys fs
all_published xs ys [] on h = tt
all_published xs ys (f ∷ fs) on h = (on f h.0, all_published xs ys fs on h.1)

pub all_push : (xs fs : List ℕ) (f : ℕ) → AllPublished xs fs → IsPublished xs f → AllPublished xs (fs ++ f ∷ [])
all_push xs [] f h s = (s, tt)
all_push xs (g ∷ gs) f h s = (h.0, all_push xs gs f h.1 s)
