-- A batch that is right carries an image on.
use Rattle.std.proofs.Common.{◌≡◌, ◌≢◌, ℕ, Bool, true, false, cond, List, [], ◌∷◌, Option, Some, None, refl, sym, ap, subst, ◌∙◌, inl, inr, ◌⊎◌}
use Rattle.std.specs.Prelude.{◌||◌, ◌==◌, IfSome, IsTrue, is_some}
use Rattle.std.specs.Option.{unwrap_or}
use Rattle.std.specs.List.{AllByRecursion}
use Rattle.std.proofs.lemmas.Bool.{eqb-true}
use Rattle.vx_layout.specs.Places.{Volume, Place, outside, blank, bits, slots, part, place_of}
use Rattle.vx_layout.specs.LogForms.{AfterImage, overlay, overlay_all, LogState, ReadsAs}
use Rattle.vx_model.specs.Images.{Parsed, content, content_at, Stands, is_metadata, contents, sectors_in, IsBatch, Says}

neither : (a b : Bool) → (a || b) ≡ false → (a ≡ false) × (b ≡ false)
neither true b h = absurd cc
neither false b h = (refl, h)

-- ---- a batch

abbrev IsHeld : Volume → Parsed → ℕ → List ℕ → Type 0
IsHeld v p s x = IfSome (content_at v p s) (λ bytes. x ≡ bytes)

here : (v : Volume) (new : Parsed) (e : AfterImage) (s : ℕ) → (e.0 == s) ≡ true → content_at v new e.0 ≡ Some e.1 → IsHeld v new s e.1
here v new e s is right =
    let same : content_at v new s ≡ Some e.1 = ap (content_at v new) (sym (eqb-true e.0 s is)) ∙ right in
    let P : Option (List ℕ) → Type 0 = λ o. IfSome o (λ bytes. e.1 ≡ bytes) in
    subst P (sym same) refl

one : (v : Volume) (new : Parsed) (e : AfterImage) (s : ℕ) (x : List ℕ) (b : Bool) → (e.0 == s) ≡ b → content_at v new e.0 ≡ Some e.1 → IsHeld v new s x → IsHeld v new s (cond b e.1 x)
one v new e s x true is right h = here v new e s is right
one v new e s x false is right h = h

-- what is right stays so under after-images that are right
kept : (v : Volume) (new : Parsed) (batch : List AfterImage) → AllByRecursion (λ e. content_at v new e.0 ≡ Some e.1) batch
    → (s : ℕ) (x : List ℕ) → IsHeld v new s x → IsHeld v new s (overlay batch s x)
kept v new [] right s x h = h
kept v new (e ∷ es) right s x h = kept v new es right.1 s (cond (e.0 == s) e.1 x) (one v new e s x _ refl right.0 h)

first_or : (v : Volume) (new : Parsed) (e : AfterImage) (es : List AfterImage) (s : ℕ) (x : List ℕ) (b : Bool) → (e.0 == s) ≡ b → content_at v new e.0 ≡ Some e.1
    → AllByRecursion (λ e. content_at v new e.0 ≡ Some e.1) es
    → (sectors_in es s ≡ true → IsHeld v new s (overlay es s x)) → (b || sectors_in es s) ≡ true → IsHeld v new s (overlay es s (cond b e.1 x))
first_or v new e es s x true is right rest more h = kept v new es rest s e.1 (here v new e s is right)
first_or v new e es s x false is right rest more h = more h

put : (v : Volume) (new : Parsed) (batch : List AfterImage) → AllByRecursion (λ e. content_at v new e.0 ≡ Some e.1) batch
    → (s : ℕ) (x : List ℕ) → sectors_in batch s ≡ true → IsHeld v new s (overlay batch s x)
put v new [] right s x h = absurd cc
put v new (e ∷ es) right s x h = first_or v new e es s x _ refl right.0 right.1 (put v new es right.1 s x) h

pub missed : (batch : List AfterImage) (s : ℕ) (x : List ℕ) → sectors_in batch s ≡ false → overlay batch s x ≡ x
missed [] s x h = refl
missed (e ∷ es) s x h =
    let m = neither (e.0 == s) (sectors_in es s) h in
    ap (λ b. overlay es s (cond b e.1 x)) m.0 ∙ missed es s x m.1

-- ---- the log

held : (o : Option (List ℕ)) (x : List ℕ) → (IsTrue (is_some o) → x ≡ unwrap_or o []) → IfSome o (λ bytes. x ≡ bytes)
held None x h = tt
held (Some y) x h = h refl

pub metadata_stands : (v : Volume) (p : Parsed) (image : ℕ → List ℕ) → ((s : ℕ) → IsTrue (is_metadata v p s) → image s ≡ contents v p s) → Stands v p image
metadata_stands v p image h s = held (content_at v p s) (image s) (h s)

known : (o : Option (List ℕ)) (x : List ℕ) → IfSome o (λ bytes. x ≡ bytes) → IsTrue (is_some o) → x ≡ unwrap_or o []
known None x h t = absurd cc
known (Some y) x h t = h

pub stands_metadata : (v : Volume) (p : Parsed) (image : ℕ → List ℕ) → Stands v p image → (s : ℕ) → IsTrue (is_metadata v p s) → image s ≡ contents v p s
stands_metadata v p image is s t = known (content_at v p s) (image s) (is s) t

-- the batch as the log's records carry it
decided_by : (e : AfterImage) (es : List AfterImage) (s : ℕ) (x y : List ℕ) (b : Bool) → (sectors_in es s ≡ true → overlay es s x ≡ overlay es s y) → (b || sectors_in es s) ≡ true
    → overlay es s (cond b e.1 x) ≡ overlay es s (cond b e.1 y)
decided_by e es s x y true more h = refl
decided_by e es s x y false more h = more h

decided : (batch : List AfterImage) (s : ℕ) (x y : List ℕ) → sectors_in batch s ≡ true → overlay batch s x ≡ overlay batch s y
decided [] s x y h = absurd cc
decided (e ∷ es) s x y h = decided_by e es s x y (e.0 == s) (decided es s x y) h

same_contents : (o p : Option (List ℕ)) → IfSome o (λ bytes. p ≡ Some bytes) → IfSome o (λ bytes. unwrap_or p [] ≡ bytes)
same_contents None p h = tt
same_contents (Some x) p h = ap (λ (q : Option (List ℕ)). unwrap_or q []) h

same_there : (o p : Option (List ℕ)) → IfSome o (λ bytes. p ≡ Some bytes) → IsTrue (is_some o) → IsTrue (is_some p)
same_there None p h t = absurd cc
same_there (Some x) p h t = ap (λ (q : Option (List ℕ)). is_some q) h

held_by : (v : Volume) (old new : Parsed) (batch : List AfterImage) → IsBatch v old new batch → (s : ℕ) (b : Bool) → sectors_in batch s ≡ b → IsHeld v new s (overlay batch s (contents v old s))
held_by v old new batch is s true h = put v new batch is.right s (contents v old s) h
held_by v old new batch is s false h =
    subst (IsHeld v new s) (sym (missed batch s (contents v old s) h)) (same_contents (content_at v new s) (content_at v old s) (is.whole s h))

batch_contents : (v : Volume) (old new : Parsed) (batch : List AfterImage) → IsBatch v old new batch
    → (s : ℕ) → IsTrue (is_metadata v new s) → overlay batch s (contents v old s) ≡ contents v new s
batch_contents v old new batch is s = known (content_at v new s) (overlay batch s (contents v old s)) (held_by v old new batch is s _ refl)

abbrev Covered : Volume → Parsed → List AfterImage → ℕ → Type 0
Covered v old batch s = IsTrue (is_metadata v old s) ⊎ ((x y : List ℕ) → overlay batch s x ≡ overlay batch s y)

covered_by : (v : Volume) (old new : Parsed) (batch : List AfterImage) → IsBatch v old new batch
    → (s : ℕ) → IsTrue (is_metadata v new s) → (b : Bool) → sectors_in batch s ≡ b → Covered v old batch s
covered_by v old new batch is s there true h = inr (λ x y. decided batch s x y h)
covered_by v old new batch is s there false h = inl (same_there (content_at v new s) (content_at v old s) (is.whole s h) there)

pub covered : (v : Volume) (old new : Parsed) (batch : List AfterImage) → IsBatch v old new batch
    → (s : ℕ) → IsTrue (is_metadata v new s) → IsTrue (is_metadata v old s) ⊎ ((x y : List ℕ) → overlay batch s x ≡ overlay batch s y)
covered v old new batch is s there = covered_by v old new batch is s there _ refl

says_by : (v : Volume) (old new : Parsed) (batch : List AfterImage) (r : LogState) → Says v old r → IsBatch v old new batch
    → (s : ℕ) → IsTrue (is_metadata v new s) → Covered v old batch s → overlay batch s (r.contents s) ≡ contents v new s
says_by v old new batch r says is s there (inl was) = ap (overlay batch s) (says.bytes s was) ∙ batch_contents v old new batch is s there
says_by v old new batch r says is s there (inr any) = any (r.contents s) (contents v old s) ∙ batch_contents v old new batch is s there

pub says_on : (v : Volume) (old new : Parsed) (batch : List AfterImage) (r next : LogState) → Says v old r → IsBatch v old new batch
    → ((s : ℕ) → IsTrue (is_metadata v new s) → IsTrue (next.is_metadata s)) → ((s : ℕ) → next.contents s ≡ overlay batch s (r.contents s)) → Says v new next
says_on v old new batch r next says is metadata held = record {
  sectors = metadata;
  bytes = λ s there. held s ∙ says_by v old new batch r says is s there (covered v old new batch is s there);
}

pub log_stands : (n : ℕ) (v : Volume) (p : Parsed) (r : LogState) (image : ℕ → List ℕ) → Says v p r → ReadsAs n r image → Stands v p (λ s. overlay_all r.records s (image s))
log_stands n v p r image says reads =
    metadata_stands v p (λ s. overlay_all r.records s (image s)) (λ s there. reads.metadata s (says.sectors s there) ∙ says.bytes s there)

-- ---- metadata stands within the units

nothing_outside : (v : Volume) (p : Parsed) (q : Place) → IsTrue (is_some (content v p q)) → q ≢ outside
nothing_outside v p outside h = absurd cc
nothing_outside v p blank h = λ e. cc
nothing_outside v p (bits u) h = λ e. cc
nothing_outside v p (slots k) h = λ e. cc
nothing_outside v p (part b i) h = λ e. cc

pub metadata_inside : (v : Volume) (p : Parsed) (s : ℕ) → IsTrue (is_metadata v p s) → place_of v s ≢ outside
metadata_inside v p s h = nothing_outside v p (place_of v s) h
