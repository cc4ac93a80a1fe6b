-- The image that a device shows with after-images laid over it.
use Rattle.std.proofs.Common.{◌≡◌, ℕ, List, [], ◌∷◌, refl, ap, sym, subst, ◌∙◌, arith}
use Rattle.std.specs.Prelude.{Option, Some, None, IfSome, Contains}
use Rattle.vx_dev.specs.Tape.{State, Tape, now, IsCertain}
use Rattle.vx_layout.specs.LogForms.{AfterImage, overlay}
use Rattle.vx_sound.specs.Said.{Image}
use Rattle.vx_check.specs.Parts.{Agrees}
use Rattle.vx_check.specs.Overlays.{image_shown, all_of}

-- an image agrees with all of its sectors
pub all_agree : (o : Option Image) (image : Image) → o ≡ Some image → Agrees (all_of o) image
all_agree None image is = absurd (cc)
all_agree (Some shown) image is = λ s bytes seen.
    let same : shown ≡ image = cc in
    let here : shown s ≡ bytes = cc in
    sym (ap (λ (f : Image). f s) same) ∙ here

-- what the image that is shown has at a sector
pub laid_at : (told : Option Tape) (doubt : List ℕ) (homes : List AfterImage) (s : ℕ) (bytes : List ℕ) → ((t : Tape) → told ≡ Some t → doubt ≡ [] → overlay homes s (now t s) ≡ bytes)
    → (image : Image) → Agrees (all_of (image_shown told doubt homes)) image → image s ≡ bytes
laid_at None doubt homes s bytes has image known = absurd known
laid_at (Some t) [] homes s bytes has image known = known s (overlay homes s (now t s)) refl ∙ has t refl refl
laid_at (Some t) (x ∷ xs) homes s bytes has image known = absurd known

nowhere : (s : ℕ) → Contains [] s → ⊥
nowhere s h = let low = h.1 in absurd (omega arith)

-- what is read of a device with no write in doubt
pub read_value : (d : State) (s : ℕ) (bytes : List ℕ) → IfSome d.told (λ t. IsCertain d s → bytes ≡ now t s) → (t : Tape) → d.told ≡ Some t → d.doubt ≡ [] → now t s ≡ bytes
read_value d s bytes h t told none =
    let certain : IsCertain d s = subst (λ (l : List ℕ). Contains l s → ⊥) (sym none) (nowhere s) in
    sym (subst (λ (o : Option Tape). IfSome o (λ x. IsCertain d s → bytes ≡ now x s)) told h certain)
