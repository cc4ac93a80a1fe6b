-- Two batches, one after the other, are one.
use Rattle.std.proofs.Common.{◌≡◌, ◌⊎◌, ℕ, Bool, true, false, cond, List, [], ◌∷◌, Option, Some, None, refl, sym, ap, subst, ◌∙◌, inl, inr}
use Rattle.std.specs.Prelude.{IfSome, IsTrue, is_some, ◌==◌, ◌||◌}
use Rattle.std.specs.Option.{unwrap_or}
use Rattle.std.specs.List.{AllByRecursion}
use Rattle.std.specs.List.Sorted.{IsStrictlyIncreasing}
use Rattle.std.proofs.lemmas.Bool.{eqb-true}
use Rattle.vx_layout.specs.Places.{Volume}
use Rattle.vx_layout.specs.LogForms.{AfterImage, LogState, overlay}
use Rattle.vx_log.specs.Batches.{sectors_of}
use Rattle.vx_log.specs.Batches.{with_notes, noted_at}
use Rattle.vx_log.specs.NoteLaws.{NoteLaws}
use Rattle.vx_model.specs.Images.{Parsed, content_at, contents, is_metadata, IsSame, IsBatch, Says, sectors_in}
use Rattle.vx_stage.specs.Leads.{IsRight, Leads}

-- ---- what is noted

pub note_cases : (batch : List AfterImage) (q : ℕ) → ((image : List ℕ) × (noted_at batch q ≡ Some image)) ⊎ (noted_at batch q ≡ None)
note_cases batch q = by_note (noted_at batch q) refl
  where
    by_note : (o : Option (List ℕ)) → noted_at batch q ≡ o → ((image : List ℕ) × (noted_at batch q ≡ Some image)) ⊎ (noted_at batch q ≡ None)
    by_note None is = inr is
    by_note (Some image) is = inl (image, is)

content_cases : (o : Option (List ℕ)) → ((bytes : List ℕ) × (o ≡ Some bytes)) ⊎ (o ≡ None)
content_cases None = inr refl
content_cases (Some bytes) = inl (bytes, refl)

-- ---- one sector, over two steps

still_same : (a b c : Option (List ℕ)) → IfSome b (λ bytes. a ≡ Some bytes) → IfSome c (λ bytes. b ≡ Some bytes) → IfSome c (λ bytes. a ≡ Some bytes)
still_same a b None h k = tt
still_same a b (Some bytes) h k = subst (λ (o : Option (List ℕ)). IfSome o (λ x. a ≡ Some x)) k h

still_right : (b c : Option (List ℕ)) (image : List ℕ) → IfSome b (λ bytes. bytes ≡ image) → IfSome c (λ bytes. b ≡ Some bytes) → IfSome c (λ bytes. bytes ≡ image)
still_right b None image h k = tt
still_right b (Some bytes) image h k = subst (λ (o : Option (List ℕ)). IfSome o (λ x. x ≡ image)) k h

-- the later batch lacks the sector
lacked : (v : Volume) (a b c : Parsed) (s : ℕ) (o : Option (List ℕ)) → IsRight v a b s o → IsSame v b c s → IsRight v a c s o
lacked v a b c s None h k = still_same (content_at v a s) (content_at v b s) (content_at v c s) h k
lacked v a b c s (Some image) h k = still_right (content_at v b s) (content_at v c s) image h k

-- the open batch and the transaction of a call
pub joined : (notes : NoteLaws) (v : Volume) (a b c : Parsed) (first second : List AfterImage) → IsStrictlyIncreasing (sectors_of second) → Leads v a b first → Leads v b c second → Leads v a c (with_notes first second)
joined notes v a b c first second rising h k s = elim (note_cases second s) [
  | inl (image, is) ↦ subst (IsRight v a c s) (sym (notes.batch first second s image rising is)) (subst (IsRight v b c s) is (k s))
  | inr none ↦ subst (IsRight v a c s) (sym (notes.batch_other first second s none)) (lacked v a b c s (noted_at first s) (h s) (subst (IsRight v b c s) none (k s)))
]

-- ---- from nothing, and from the batch of one transaction

pub nothing : (v : Volume) (p : Parsed) → Leads v p p []
nothing v p s = same (content_at v p s)
  where
    same : (o : Option (List ℕ)) → IfSome o (λ bytes. o ≡ Some bytes)
    same None = tt
    same (Some bytes) = refl

pub is_right : (v : Volume) (new : Parsed) (batch : List AfterImage) (s : ℕ) (image : List ℕ) → AllByRecursion (λ e. content_at v new e.0 ≡ Some e.1) batch → noted_at batch s ≡ Some image → content_at v new s ≡ Some image
is_right v new [] s image all is = absurd cc
is_right v new (e ∷ batch) s image all is = here (is_right v new batch s image all.1) (e.0 == s) refl is
  where
    here : (noted_at batch s ≡ Some image → content_at v new s ≡ Some image) → (t : Bool) → (e.0 == s) ≡ t → cond t (Some e.1) (noted_at batch s) ≡ Some image → content_at v new s ≡ Some image
    here rest true same found = subst (λ (q : ℕ). content_at v new q ≡ Some e.1) (eqb-true e.0 s same) all.0 ∙ found
    here rest false other found = rest found

not_in : (batch : List AfterImage) (s : ℕ) → noted_at batch s ≡ None → sectors_in batch s ≡ false
not_in [] s none = refl
not_in (e ∷ batch) s none = here (not_in batch s) (e.0 == s) refl none
  where
    here : (noted_at batch s ≡ None → sectors_in batch s ≡ false) → (t : Bool) → (e.0 == s) ≡ t → cond t (Some e.1) (noted_at batch s) ≡ None → (e.0 == s || sectors_in batch s) ≡ false
    here rest true same found = absurd cc
    here rest false other found = rw other (rest found)

pub of_batch : (v : Volume) (old new : Parsed) (batch : List AfterImage) → IsBatch v old new batch → Leads v old new batch
of_batch v old new batch is s = elim (note_cases batch s) [
  | inl (image, found) ↦ subst (IsRight v old new s) (sym found) (subst (λ (o : Option (List ℕ)). IfSome o (λ bytes. bytes ≡ image)) (sym (is_right v new batch s image is.right found)) refl)
  | inr none ↦ subst (IsRight v old new s) (sym none) (is.whole s (not_in batch s none))
]

-- ---- what the log says with the batch

some_of : (o : Option (List ℕ)) → IsTrue (is_some o) → (bytes : List ℕ) × (o ≡ Some bytes)
some_of None h = absurd cc
some_of (Some bytes) h = (bytes, refl)

module _ (notes : NoteLaws) (v : Volume) (old new : Parsed) (batch : List AfterImage) (rising : IsStrictlyIncreasing (sectors_of batch)) (leads : Leads v old new batch) where
  -- each metadata sector was one before, or the batch has it
  pub covered : (s : ℕ) → IsTrue (is_metadata v new s) → IsTrue (is_metadata v old s) ⊎ ((x y : List ℕ) → overlay batch s x ≡ overlay batch s y)
  covered s there = elim (note_cases batch s) [
    | inl (image, is) ↦ inr (λ x y. notes.overlay_has batch s image x rising is ∙ sym (notes.overlay_has batch s image y rising is))
    | inr none ↦
        let content = some_of (content_at v new s) there in
        let same : IfSome (content_at v new s) (λ bytes. content_at v old s ≡ Some bytes) = subst (IsRight v old new s) none (leads s) in
        let before : content_at v old s ≡ Some content.0 = subst (λ (o : Option (List ℕ)). IfSome o (λ bytes. content_at v old s ≡ Some bytes)) content.1 same in
        inl (subst (λ (o : Option (List ℕ)). IsTrue (is_some o)) (sym before) refl)
  ]

  pub says_next : (r next : LogState) → Says v old r → ((s : ℕ) → IsTrue (is_metadata v new s) → IsTrue (next.is_metadata s)) → ((s : ℕ) → next.contents s ≡ overlay batch s (r.contents s)) → Says v new next
  says_next r next says sectors laid = record { sectors = sectors; bytes = bytes }
    where
      bytes : (s : ℕ) → IsTrue (is_metadata v new s) → next.contents s ≡ contents v new s
      bytes s there =
          let content = some_of (content_at v new s) there in
          let now_is : contents v new s ≡ content.0 = ap (λ (o : Option (List ℕ)). unwrap_or o []) content.1 in
          elim (note_cases batch s) [
            | inl (image, is) ↦
                let right : IfSome (content_at v new s) (λ b. b ≡ image) = subst (IsRight v old new s) is (leads s) in
                let same : content.0 ≡ image = subst (λ (o : Option (List ℕ)). IfSome o (λ b. b ≡ image)) content.1 right in
                laid s ∙ notes.overlay_has batch s image (r.contents s) rising is ∙ sym same ∙ sym now_is
            | inr none ↦
                let same : IfSome (content_at v new s) (λ b. content_at v old s ≡ Some b) = subst (IsRight v old new s) none (leads s) in
                let before : content_at v old s ≡ Some content.0 = subst (λ (o : Option (List ℕ)). IfSome o (λ b. content_at v old s ≡ Some b)) content.1 same in
                let was : IsTrue (is_metadata v old s) = subst (λ (o : Option (List ℕ)). IsTrue (is_some o)) (sym before) refl in
                laid s ∙ notes.overlay_lacks batch s (r.contents s) none ∙ says.bytes s was ∙ ap (λ (o : Option (List ℕ)). unwrap_or o []) before ∙ sym now_is
          ]
