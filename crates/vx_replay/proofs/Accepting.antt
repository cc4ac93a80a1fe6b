-- An image that replays is read without a refusal.
use Rattle.std.proofs.Common.{◌≡◌, ℕ, suc, ◌+◌, ◌*◌, ◌<◌, ◌≤◌, ◌^◌, List, [], ◌∷◌, ◌++◌, length, get_or, refl, sym, ap, subst, ◌∙◌, arith, inl, inr, true, false, length-append}
use Rattle.std.specs.Prelude.{Result, Ok}
use Rattle.std.specs.Int.{w32}
use Rattle.std.specs.List.{AllByRecursion}
use Rattle.std.proofs.lemmas.Bool.{le-ltb, ne_eqb, eq-eqb}
use Rattle.std.proofs.lemmas.List.{ext_get_or}
use Rattle.vx_layout.specs.declared.superblock.Super.{Super}
use Rattle.vx_layout.specs.declared.superblock.BadSuper.{BadSuper}
use Rattle.vx_layout.specs.Fields.{number_at}
use Rattle.vx_layout.specs.LogForms.{AfterImage, IsRecord, homes_of, head_sector, descriptor, log_at, log_sectors, record_sectors, overlay_all}
use Rattle.vx_layout.specs.Places.{sectors_of}
use Rattle.vx_layout.specs.Supers.{IsSuper, super_at, super_bytes, volume_of}
use Rattle.vx_log.specs.Ends.{AreNames, IsEnds, ends_bytes}
use Rattle.vx_log.specs.declared.read.Ends.{Ends}
use Rattle.vx_model.specs.Replays.{ReplaysAs}
use Rattle.vx_model.specs.Tree.{Tree}
use Rattle.vx_replay.specs.BadImages.{bad, with_room, with_log, checked_super, checked_again, first_super, HasLog, IsBadSuper, IsBadLog, WhyBadLog}
use Rattle.vx_replay.specs.LogReads.{StandThere, AreRecords, HasNoRecord}
use Rattle.vx_replay.specs.ImageChecks.{IsFault, is_of_image, laid}
use Rattle.vx_replay.specs.declared.image_check.CheckRefusal.{CheckRefusal}
use Rattle.vx_replay.specs.declared.image_check.CheckRefusal.TheVariants as why
use Rattle.vx_sound.specs.Sound.{SoundLaws, IsBadMeta}
use Rattle.vx_replay.proofs.LogReading.{length-homes, length-images}

-- what the forms of the superblock and the log say
pub record FormLaws : Type 0 where
  pub again : (v : Super) → IsSuper v → super_at (super_bytes v) ≡ Ok v
  pub heads : (serial tail head serial2 tail2 head2 : ℕ) → tail < 2 ^ 64 → head < 2 ^ 64 → tail2 < 2 ^ 64 → head2 < 2 ^ 64
      → head_sector serial tail head ≡ head_sector serial2 tail2 head2 → (tail ≡ tail2) × (head ≡ head2)
  pub records : (n size more position : ℕ) (rs qs : List (List AfterImage)) → AllByRecursion (IsRecord n size) rs → AllByRecursion (IsRecord n more) qs → log_sectors position rs ≡ log_sectors position qs → rs ≡ qs
  pub count : (position : ℕ) (homes : List ℕ) → length homes ≤ 124 → number_at w32 4 (descriptor position homes) ≡ length homes

-- ---- sectors of a log

get_behind : (xs ys : List (List ℕ)) (i : ℕ) → get_or (xs ++ ys) (length xs + i) [] ≡ get_or ys i []
get_behind [] ys i = let e : 0 + i ≡ i = omega arith in ap (λ (k : ℕ). get_or ys k []) e
get_behind (x ∷ xs) ys i = let e : length (x ∷ xs) + i ≡ suc (length xs + i) = omega arith in ap (λ (k : ℕ). get_or ((x ∷ xs) ++ ys) k []) e ∙ get_behind xs ys i

stand_rest : (n : ℕ) (image : ℕ → List ℕ) (position : ℕ) (xs ys : List (List ℕ)) → StandThere n image position (xs ++ ys) → StandThere n image (position + length xs) ys
stand_rest n image position xs ys h i lt =
    let e : position + (length xs + i) ≡ position + length xs + i = omega arith in
    subst (λ (p : ℕ). image (log_at n p) ≡ get_or ys i []) e (h (length xs + i) (omega (arith, lt, length-append xs ys)) ∙ get_behind xs ys i)

stand_first : (n : ℕ) (image : ℕ → List ℕ) (position : ℕ) (x : List ℕ) (xs : List (List ℕ)) → StandThere n image position (x ∷ xs) → image (log_at n position) ≡ x
stand_first n image position x xs h =
    let e : position + 0 ≡ position = omega arith in
    subst (λ (p : ℕ). image (log_at n p) ≡ x) e (h 0 (omega arith))

names_of : (n size : ℕ) (r : List AfterImage) → IsRecord n size r → AreNames n size (homes_of r)
names_of n size r is = record {
  some = omega (arith, is.some, length-homes r);
  few = omega (arith, is.few, length-homes r);
  rising = is.rising;
  each = is.homes;
}

module _ (laws : FormLaws) (n size head : ℕ) (image : ℕ → List ℕ) where
  -- records that fill the log up to a position, where others fill it whole
  pub front_good : (tail : ℕ) (front qs : List (List AfterImage)) (position : ℕ) → AreRecords n size tail position front → StandThere n image tail (log_sectors tail front)
      → AllByRecursion (IsRecord n size) qs → head ≡ tail + length (log_sectors tail qs) → StandThere n image tail (log_sectors tail qs) → position < head → HasNoRecord n size image position head → ⊥
  front_good tail [] [] position are stand form ends whole before none = omega (arith, before, ends, are.ends)
  front_good tail [] (r ∷ qs) position are stand form ends whole before none =
      let here : position ≡ tail = are.ends ∙ (let e : tail + 0 ≡ tail = omega arith in e) in
      let names = names_of n size r form.0 in
      let first : image (log_at n tail) ≡ descriptor tail (homes_of r) = stand_first n image tail (descriptor tail (homes_of r)) _ whole in
      none (homes_of r) names
      (let next : ℕ = tail + (1 + length r) in omega (arith, here, ends, length-homes r, length-append (record_sectors tail r) (log_sectors next qs), length-images r))
      (subst (λ (p : ℕ). image (log_at n p) ≡ descriptor p (homes_of r)) (sym here) first)
  front_good tail (p ∷ front) [] position are stand form ends whole before none = omega (arith, before, ends, are.ends)
  front_good tail (p ∷ front) (r ∷ qs) position are stand form ends whole before none =
      let one : image (log_at n tail) ≡ descriptor tail (homes_of p) = stand_first n image tail (descriptor tail (homes_of p)) _ stand in
      let other : image (log_at n tail) ≡ descriptor tail (homes_of r) = stand_first n image tail (descriptor tail (homes_of r)) _ whole in
      let few_p : length (homes_of p) ≤ 124 = omega (arith, are.form.0.few, length-homes p) in
      let few_r : length (homes_of r) ≤ 124 = omega (arith, form.0.few, length-homes r) in
      let count : length (homes_of p) ≡ length (homes_of r) =
      sym (laws.count tail (homes_of p) few_p) ∙ ap (number_at w32 4) (sym one ∙ other) ∙ laws.count tail (homes_of r) few_r in
      let same : length p ≡ length r = omega (arith, count, length-homes p, length-homes r) in
      let next_p : ℕ = tail + (1 + length p) in
      let next_r : ℕ = tail + (1 + length r) in
      let place_p : tail + length (record_sectors tail p) ≡ next_p = omega (arith, length-images p) in
      let place_r : tail + length (record_sectors tail r) ≡ next_r = omega (arith, length-images r) in
      let level : next_p ≡ next_r = ap (λ (k : ℕ). tail + (1 + k)) same in
      let rest_p : StandThere n image next_p (log_sectors next_p front) = subst (λ (k : ℕ). StandThere n image k (log_sectors next_p front)) place_p (stand_rest n image tail (record_sectors tail p) (log_sectors next_p front) stand) in
      let rest_r : StandThere n image next_r (log_sectors next_r qs) = subst (λ (k : ℕ). StandThere n image k (log_sectors next_r qs)) place_r (stand_rest n image tail (record_sectors tail r) (log_sectors next_r qs) whole) in
      let are_p : AreRecords n size next_p position front = record { form = are.form.1; ends = omega (arith, are.ends, length-append (record_sectors tail p) (log_sectors next_p front), length-images p) } in
      front_good next_r front qs position (subst (λ (k : ℕ). AreRecords n size k position front) level are_p) (subst (λ (k : ℕ). StandThere n image k (log_sectors k front)) level rest_p)
      form.1 (omega (arith, ends, length-append (record_sectors tail r) (log_sectors next_r qs), length-images r)) rest_r before none

-- ---- superblocks

ok_same : (v w : Super) → ◌≡◌ {A = Result Super BadSuper} (Ok v) (Ok w) → v ≡ w
ok_same v w e = cc

not_bad : (v : Super) (field : ℕ) → ◌≡◌ {A = Result Super BadSuper} (Ok v) (bad field) → ⊥
not_bad v field e = cc

module _ (laws : FormLaws) (size : ℕ) (image : ℕ → List ℕ) (tree : Tree) (h : ReplaysAs size image tree) where
  abbrev n : ℕ
  n = 2 * h.first.log_blocks

  with_room_of : (v : Super) → sectors_of (volume_of v) ≤ size → with_room size (Ok v) ≡ Ok v
  with_room_of v le = rw (le-ltb size (sectors_of (volume_of v)) le) refl

  first_of : first_super size image ≡ Ok h.first
  first_of =
      let some : size ≡ 0 → ⊥ = λ none. omega (arith, none, h.first_room) in
      rw (ne_eqb size 0 some) (ap (checked_super size) h.first_is ∙ ap (with_room size) (laws.again h.first h.is_first) ∙ with_room_of h.first h.first_room)

  last_of : checked_again size h.first.log_blocks (overlay_all h.records 0 (image 0)) ≡ Ok h.superblock
  last_of =
      let x : List ℕ = overlay_all h.records 0 (image 0) in
      let read : super_at x ≡ Ok h.superblock = ap super_at h.superblock_is ∙ laws.again h.superblock h.is_super in
      let level : with_log h.first.log_blocks x (Ok h.superblock) ≡ Ok h.superblock = rw (eq-eqb h.superblock.log_blocks h.first.log_blocks h.same_log) refl in
      ap (λ (o : Result Super BadSuper). with_room size (with_log h.first.log_blocks x o)) read ∙ ap (with_room size) level ∙ with_room_of h.superblock h.room

  same_first : (v : Super) → first_super size image ≡ Ok v → v ≡ h.first
  same_first v is = ok_same v h.first (sym is ∙ first_of)

  ends_same : (e : Ends) → IsEnds n e → image 2 ≡ ends_bytes e → (h.log.tail ≡ e.tail) × (h.log.head ≡ e.head)
  ends_same e is head_is =
      laws.heads h.log.serial h.log.tail h.log.head e.serial e.tail e.head (omega (arith, h.log.limit, h.log.ends)) (omega (arith, h.log.limit)) (omega (arith, is.limit, is.order)) (omega (arith, is.limit)) (sym h.log.head_is ∙ head_is)

  log_same : (records : List (List AfterImage)) → HasLog size image h.first records → records ≡ h.records
  log_same records log =
      let ends = ends_same log.ends log.is_ends log.head_is in
      let count : length (log_sectors h.log.tail h.records) ≡ length (log_sectors log.ends.tail records) = omega (arith, h.log.ends, log.are.ends, ends.0, ends.1) in
      let same : log_sectors h.log.tail h.records ≡ log_sectors log.ends.tail records = ext_get_or [] (log_sectors h.log.tail h.records) (log_sectors log.ends.tail records) count
      (λ i lt. sym (h.log.whole i lt) ∙ ap (λ (p : ℕ). image (log_at n (p + i))) ends.0 ∙ log.stand i (omega (arith, lt, count))) in
      sym (laws.records n size size h.log.tail h.records records h.log.form log.are.form (same ∙ sym (ap (λ (p : ℕ). log_sectors p records) ends.0)))

  pub super_good : (field : ℕ) → IsBadSuper size image field → ⊥
  super_good field (inl first) = not_bad h.first field (sym first_of ∙ first)
  super_good field (inr b) =
      let first : b.first ≡ h.first = same_first b.first b.first_is in
      let records : b.records ≡ h.records = log_same b.records (subst (λ (v : Super). HasLog size image v b.records) first b.log) in
      not_bad h.superblock field (sym last_of ∙ (λ i. checked_again size (sym first i).log_blocks (overlay_all (sym records i) 0 (image 0))) ∙ b.last)

  own_ends : IsEnds n (record { serial = h.log.serial; tail = h.log.tail; head = h.log.head })
  own_ends = record { serial = h.log.serial_limit; order = omega (arith, h.log.ends); fits = h.log.fits; limit = h.log.limit }

  pub log_good : (sector : ℕ) → IsBadLog size image sector → ⊥
  log_good sector b =
      let first : b.first ≡ h.first = same_first b.first b.first_is in
      by_why (subst (λ (v : Super). WhyBadLog size image (2 * v.log_blocks) sector) first b.why)
    where
      by_why : WhyBadLog size image n sector → ⊥
      by_why (inl none) = none.1 (record { serial = h.log.serial; tail = h.log.tail; head = h.log.head }) own_ends h.log.head_is
      by_why (inr w) =
          let ends = ends_same w.0 w.1 w.2 in
          let e = w.3 in
          front_good laws n size h.log.head image h.log.tail e.records h.records e.position
          (subst (λ (p : ℕ). AreRecords n size p e.position e.records) (sym ends.0) e.are)
          (subst (λ (p : ℕ). StandThere n image p (log_sectors p e.records)) (sym ends.0) e.stand)
          h.log.form h.log.ends h.log.whole (omega (arith, e.before, ends.1)) (subst (λ (p : ℕ). HasNoRecord n size image e.position p) (sym ends.1) e.none)

  -- an image that replays passes the check

  pub passes_check : SoundLaws → (why : CheckRefusal) → is_of_image why ≡ true → IsFault false size image why → ⊥
  passes_check sound (why.BadSuper field) of (inl first) = super_good field (inl first)
  passes_check sound (why.BadSuper field) of (inr b) = super_good field (inr (record { first = b.front.first; first_is = b.front.first_is; records = b.front.records; log = b.front.log; last = b.last_is }))
  passes_check sound (why.BadLog sector) of b = log_good sector b
  passes_check sound (why.NotClean tail head) of b = absurd cc
  passes_check sound (why.BadMeta sector) of b =
      let front = b.whole.front in
      let first : front.first ≡ h.first = same_first front.first front.first_is in
      let records : front.records ≡ h.records = log_same front.records (subst (λ (v : Super). HasLog size image v front.records) first front.log) in
      let last : b.whole.last ≡ h.superblock = ok_same b.whole.last h.superblock
      (sym b.whole.last_is ∙ (λ i. checked_again size (first i).log_blocks (overlay_all (records i) 0 (image 0))) ∙ last_of) in
      let there : IsBadMeta false (volume_of h.superblock) (laid h.records image) sector =
      subst (λ (v : Super). IsBadMeta false (volume_of v) (laid h.records image) sector) last (subst (λ (rs : List (List AfterImage)). IsBadMeta false (volume_of b.whole.last) (laid rs image) sector) records b.first_fault) in
      sound.refused false (volume_of h.superblock) (laid h.records image) sector h.sound there
  passes_check sound why.ReadFault of b = absurd cc
  passes_check sound why.NoMemory of b = absurd cc
