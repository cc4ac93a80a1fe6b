-- Behind which event a file was cut, made or shortened last.
use Rattle.std.proofs.Common.{◌≡◌, ◌⊎◌, ◌+◌, ◌≤◌, ◌<◌, max, ℕ, zero, suc, Bool, true, false, cond, List, [], ◌∷◌, ◌++◌, length, Ok, Err, refl, sym, ◌∙◌, ap, subst, inl, inr, arith}
use Rattle.std.proofs.lemmas.Bool.{cases_Bool, cases_lt}
use Rattle.std.proofs.lemmas.List.{length_push}
use Rattle.vx_base.specs.declared.event.Event.{Event}
use Rattle.vx_base.specs.declared.mode.Logging.{Logging}
use Rattle.vx_model.specs.Legal.{World}
use Rattle.vx_model.specs.Outcome.{Maybe}
use Rattle.vx_model.specs.Tree.{File}
use Rattle.vx_bytes.specs.Histories.{behind_last, file_after, is_cut, is_made, is_removed, is_shorter, last_cut, last_made, last_shorter, story}
use Rattle.vx_bytes.proofs.Growing.{file_old, before, afterwards, before_is, after_is}

behind_same : (f g : ℕ → Bool) (k : ℕ) → ((j : ℕ) → j < k → f j ≡ g j) → behind_last f k ≡ behind_last g k
behind_same f g zero same = refl
behind_same f g (suc k) same =
    let rest : behind_last f k ≡ behind_last g k = behind_same f g k (λ j lt. same j (omega (arith, lt))) in
    let here : f k ≡ g k = same k (omega arith) in
    rw (here, rest) refl

behind_within : (f : ℕ → Bool) (k : ℕ) → behind_last f k ≤ k
behind_within f zero = omega arith
behind_within f (suc k) = elim (cases_Bool (f k)) [
  | inl on ↦ rw on (omega arith)
  | inr off ↦ (let rest : behind_last f k ≤ k = behind_within f k in rw off (omega (arith, rest)))
]

-- none passes the test behind it
behind_none : (f : ℕ → Bool) (k i : ℕ) → behind_last f k ≤ i → i < k → f i ≡ false
behind_none f zero i low high = absurd (omega (arith, high))
behind_none f (suc k) i low high = elim (cases_Bool (f k)) [
  | inl on ↦ (let here : suc k ≤ i = subst (λ (t : Bool). cond {A = ℕ} t (suc k) (behind_last f k) ≤ i) on low in absurd (omega (arith, here, high)))
  | inr off ↦
      let rest : behind_last f k ≤ i = subst (λ (t : Bool). cond {A = ℕ} t (suc k) (behind_last f k) ≤ i) off low in
      elim (cases_lt i k) [
        | inl lt ↦ behind_none f k i rest lt
        | inr more ↦ (let same : k ≡ i = omega (arith, more, high) in subst (λ (j : ℕ). f j ≡ false) same off)
      ]
]

-- what either of two tests passes
behind_either : (f g r : ℕ → Bool) (k : ℕ) → ((j : ℕ) → f j ≡ true → (g j ≡ true) ⊎ (r j ≡ true)) → behind_last f k ≤ max (behind_last g k) (behind_last r k)
behind_either f g r zero or = omega arith
behind_either f g r (suc k) or =
    let rest : behind_last f k ≤ max (behind_last g k) (behind_last r k) = behind_either f g r k or in
    let low_g : behind_last g k ≤ k = behind_within g k in
    let low_r : behind_last r k ≤ k = behind_within r k in
    let low_f : behind_last f k ≤ k = behind_within f k in
    elim (cases_Bool (f k)) [
      | inl on ↦ elim (or k on) [
        | inl first ↦ rw (on, first) (omega arith)
        | inr second ↦ rw (on, second) (omega arith)
      ]
      | inr off ↦ rw off (elim (cases_Bool (g k)) [
        | inl first ↦ rw first (omega (arith, low_f))
        | inr none ↦ rw none (elim (cases_Bool (r k)) [ inl second ↦ rw second (omega (arith, low_f)) | inr neither ↦ rw neither rest ])
      ])
    ]

module _ (test : Maybe File → Maybe File → Bool) (o : World) (h : List Event) (e : Event) (n : ℕ) where
  abbrev passes : List Event → ℕ → Bool
  passes es i = test (file_after o es n i) (file_after o es n (i + 1))

  old_passes : (j : ℕ) → j < length h → passes (h ++ e ∷ []) j ≡ passes h j
  old_passes j lt = λ x. test (file_old o h e n j (omega (arith, lt)) x) (file_old o h e n (j + 1) (omega (arith, lt)) x)

  new_passes : passes (h ++ e ∷ []) (length h) ≡ test (before o h e n) (afterwards o h e n)
  new_passes = λ x. test (before_is o h e n x) (after_is o h e n x)

  long : length (h ++ e ∷ []) ≡ suc (length h)
  long = omega (arith, length_push h e)

  behind_new : test (before o h e n) (afterwards o h e n) ≡ true → behind_last (passes (h ++ e ∷ [])) (length (h ++ e ∷ [])) ≡ length (h ++ e ∷ [])
  behind_new on =
      let here : passes (h ++ e ∷ []) (length h) ≡ true = new_passes ∙ on in
      let at : behind_last (passes (h ++ e ∷ [])) (suc (length h)) ≡ suc (length h) = rw here refl in
      ap (behind_last (passes (h ++ e ∷ []))) long ∙ at ∙ sym long

  behind_old : test (before o h e n) (afterwards o h e n) ≡ false → behind_last (passes (h ++ e ∷ [])) (length (h ++ e ∷ [])) ≡ behind_last (passes h) (length h)
  behind_old off =
      let here : passes (h ++ e ∷ []) (length h) ≡ false = new_passes ∙ off in
      let at : behind_last (passes (h ++ e ∷ [])) (suc (length h)) ≡ behind_last (passes (h ++ e ∷ [])) (length h) = rw here refl in
      ap (behind_last (passes (h ++ e ∷ []))) long ∙ at ∙ behind_same (passes (h ++ e ∷ [])) (passes h) (length h) old_passes

module _ (o : World) (h : List Event) (e : Event) (n : ℕ) where
  pub cut_new : is_cut (before o h e n) (afterwards o h e n) ≡ true → last_cut o (h ++ e ∷ []) n ≡ length (h ++ e ∷ [])
  unfolding last_cut
  cut_new on = behind_new is_cut o h e n on

  pub cut_old : is_cut (before o h e n) (afterwards o h e n) ≡ false → last_cut o (h ++ e ∷ []) n ≡ last_cut o h n
  unfolding last_cut
  cut_old off = behind_old is_cut o h e n off

  pub made_old : is_made (before o h e n) (afterwards o h e n) ≡ false → last_made o (h ++ e ∷ []) n ≡ last_made o h n
  unfolding last_made
  made_old off = behind_old is_made o h e n off

pub made_within : (o : World) (h : List Event) (n : ℕ) → last_made o h n ≤ length h
unfolding last_made
made_within o h n = behind_within (λ i. is_made (file_after o h n i) (file_after o h n (i + 1))) (length h)

pub cut_within : (o : World) (h : List Event) (n : ℕ) → last_cut o h n ≤ length h
unfolding last_cut
cut_within o h n = behind_within (λ i. is_cut (file_after o h n i) (file_after o h n (i + 1))) (length h)

made_or_shorter : (a b : Maybe File) → is_cut a b ≡ true → (is_made a b ≡ true) ⊎ (is_shorter a b ≡ true)
made_or_shorter (Ok was) (Ok is) on = inr on
made_or_shorter (Err a) (Err b) on = absurd cc
made_or_shorter (Ok was) (Err b) on = inl refl
made_or_shorter (Err a) (Ok is) on = inl refl

-- a cut is a making, an end or a smaller truncate
pub cut_by : (o : World) (h : List Event) (n : ℕ) → last_cut o h n ≤ max (last_made o h n) (last_shorter o h n)
unfolding last_cut last_made last_shorter
cut_by o h n = behind_either (λ i. is_cut (file_after o h n i) (file_after o h n (i + 1))) (λ i. is_made (file_after o h n i) (file_after o h n (i + 1))) (λ i. is_shorter (file_after o h n i) (file_after o h n (i + 1))) (length h)
    (λ j on. made_or_shorter (file_after o h n j) (file_after o h n (j + 1)) on)

uncut_kept : (a b : Maybe File) (i : ℕ) → is_cut a b ≡ false → is_removed a b i ≡ false
uncut_kept (Ok was) (Ok is) i off = rw off refl
uncut_kept (Err a) (Err b) i off = refl
uncut_kept (Ok was) (Err b) i off = absurd cc
uncut_kept (Err a) (Ok is) i off = absurd cc

-- nothing was removed since the last cut
pub kept_since : (mode : Logging) (o : World) (h : List Event) (n i j : ℕ) → last_cut o h n ≤ j → j < (story mode o h n).ends → (story mode o h n).removes i j ≡ false
unfolding last_cut story
kept_since mode o h n i j low high = uncut_kept (file_after o h n j) (file_after o h n (j + 1)) i (behind_none (λ i. is_cut (file_after o h n i) (file_after o h n (i + 1))) (length h) j low high)
