-- The image that answers what was read.
use Rattle.std.proofs.Common.{◌≡◌, ℕ, List, [], ◌∷◌, refl, sym, ap, ap₂, subst, ◌∙◌}
use Rattle.std.specs.Prelude.{Option, Some, None}
use Rattle.std.specs.Option.{unwrap_or}
use Rattle.vx_dev.specs.Tape.{State, Tape, now}
use Rattle.vx_sound.specs.Said.{Image, inode_count}
use Rattle.vx_check.specs.Parts.{Seen, Agrees, HasRead}
use Rattle.vx_check.specs.Overlays.{image_shown}
use Rattle.vx_check.specs.Remembering.{seen_of, remembered_by}
use Rattle.vx_check.specs.Loading.{HasOnlyRead, OnDevice, AreSaid, AreFound, IsOfOneImage}
use Rattle.vx_check.specs.Parts.{Deeds, IsChecked}
use Rattle.vx_check.proofs.Remembering.{nothing_seen}
use Rattle.vx_check.specs.Links.{AreInodes, AreChildren}
use Rattle.vx_check.specs.Contents.{AreContents}
use Rattle.vx_check.specs.declared.check.Found.{Found}
use Rattle.vx_check.specs.declared.stop.Stop.{Stop}
use Rattle.vx_check.specs.declared.stop.Stop.TheVariants.{NoMemory}
use Rattle.std.specs.Prelude.{Result, Ok, Err, IfOk, length, replicate, true}
use Rattle.vx_layout.specs.Places.{Volume}

-- the image that the device shows, or else one of what was read alone
answered : Option Tape → List ℕ → Seen → Image
answered None doubt seen = λ s. unwrap_or (seen s) []
answered (Some t) [] seen = now t
answered (Some t) (x ∷ xs) seen = λ s. unwrap_or (seen s) []

answered_agrees : (told : Option Tape) (doubt : List ℕ) (seen : Seen) → ((image : Image) → image_shown told doubt [] ≡ Some image → Agrees (Some seen) image) → Agrees (Some seen) (answered told doubt seen)
unfolding answered
answered_agrees None doubt seen h = λ s bytes is. ap (λ (o : Option (List ℕ)). unwrap_or o []) is
answered_agrees (Some t) [] seen h = h (now t) refl
answered_agrees (Some t) (x ∷ xs) seen h = λ s bytes is. ap (λ (o : Option (List ℕ)). unwrap_or o []) is

answered_shown : (d : State) (seen : Seen) → OnDevice d (λ real. answered d.told d.doubt seen ≡ real)
unfolding answered now
answered_shown d seen t told none = ap₂ (λ (o : Option Tape) (xs : List ℕ). answered o xs seen) told none

module _ (a b : ℕ) (d e : State) (sectors : ℕ) (old new : List (Option (List ℕ))) (read : HasRead (remembered_by a d old) (remembered_by b e new)) (empty : old ≡ replicate sectors None) where
  start : (image : Image) → Agrees (Some (seen_of old)) image
  start image = λ s bytes is.
      let bad : None ≡ Some bytes = sym (ap (λ kept. seen_of kept s) empty ∙ nothing_seen sectors s) ∙ is in
      absurd (cc)

  pub image_found : Image
  image_found = answered d.told d.doubt (seen_of new)

  pub found_agrees : Agrees (Some (seen_of new)) image_found
  unfolding image_found
  found_agrees = answered_agrees d.told d.doubt (seen_of new) (λ image is. read.right image is (start image))

  pub found_shown : OnDevice d (λ real. image_found ≡ real)
  unfolding image_found
  found_shown = answered_shown d (seen_of new)

  pub device_agrees : OnDevice d (Agrees (Some (seen_of new)))
  device_agrees t told none = subst (Agrees (Some (seen_of new))) (found_shown t told none) found_agrees

  pub one_answer : {T : Type 0} (v : Volume) (result : Result T Stop) → ((image : Image) → Agrees (Some (seen_of new)) image → IsChecked true v image result) → IsOfOneImage v d result
  one_answer v result checked = record { image = image_found; checked = checked image_found found_agrees; shown = found_shown }

  pub only_read : HasOnlyRead d e
  only_read = record {
    told = ap (λ (x : Deeds). x.told) read.deeds;
    count = ap (λ (x : Deeds). x.count) read.deeds;
    doubt = ap (λ (x : Deeds). x.doubt) read.deeds;
    size = read.size;
    write_faults = ap (λ (x : Deeds). x.write_faults) read.deeds;
    read_faults = read.faults;
  }

-- where nothing was read the answer is that memory is short
pub nothing_read : {T : Type 0} (v : Volume) (d : State) → IsOfOneImage {T = T} v d (Err NoMemory)
nothing_read v d = record { image = answered d.told d.doubt (λ s. None); checked = tt; shown = answered_shown d (λ s. None) }

-- ---- what is found

-- one image that agrees with what was read says what is found
abbrev pub SaysFound : Volume → Image → Found → Type 0
SaysFound v image f = AreSaid v image f.inodes.items f.children.items f.contents.items

module _ (v : Volume) (seen : Option Seen) where
  pub says_found : (r : Result Found Stop) → ((image : Image) → Agrees seen image → IsChecked true v image r) → IfOk r (λ f. (image : Image) → Agrees seen image → AreInodes f.inodes.items v image)
      → IfOk r (λ f. (image : Image) → Agrees seen image → AreChildren f.children.items v image) → IfOk r (λ f. (image : Image) → Agrees seen image → AreContents f.contents.items v image)
      → IfOk r (λ f. (image : Image) → Agrees seen image → SaysFound v image f)
  says_found (Ok f) finds inodes children contents = λ image agrees. record {
    sound = finds image agrees;
    inodes_are = inodes image agrees;
    children_are = children image agrees;
    contents_are = contents image agrees;
  }
  says_found (Err why) finds inodes children contents = tt

  module _ (d : State) where
    pub on_device : OnDevice d (Agrees seen) → (r : Result Found Stop) → IfOk r (λ f. (image : Image) → Agrees seen image → SaysFound v image f) → IfOk r (λ f. OnDevice d (λ image. SaysFound v image f))
    on_device agrees (Ok f) says = λ t told none. says (now t) (agrees t told none)
    on_device agrees (Err why) says = tt

    pub one_image : (image : Image) → Agrees seen image → OnDevice d (λ real. image ≡ real) → (r : Result Found Stop) → IfOk r (λ f. (image : Image) → Agrees seen image → SaysFound v image f)
        → IfOk r (λ f. length f.inodes.items ≡ inode_count v) → IfOk r (λ f. length f.contents.items ≡ inode_count v) → IfOk r (λ f. AreFound v d f.inodes.items f.children.items f.contents.items)
    one_image image agrees shown (Ok f) says inodes contents = record { image = image; are = says image agrees; shown = shown; inodes_count = inodes; contents_count = contents }
    one_image image agrees shown (Err why) says inodes contents = tt
