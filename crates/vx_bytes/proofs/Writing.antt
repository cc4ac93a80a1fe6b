-- A write, and a truncate that is no smaller, by what they leave of each file.
use Rattle.std.proofs.Common.{◌≡◌, ◌⊎◌, ◌+◌, ◌*◌, ◌/◌, ◌%◌, ◌≤◌, ◌<◌, max, ℕ, List, length, get_or, Ok, refl, sym, ◌∙◌, ap, subst, inl, inr, arith}
use Rattle.std.specs.Prelude.{Option, Some, None, ◌==◌}
use Rattle.std.specs.FinMap as map
use Rattle.std.specs.List.{AllByRecursion}
use Rattle.std.proofs.lemmas.Bool.{cases_eq, cases_lt, eq-eqb, ne_eqb}
use Rattle.std.proofs.lemmas.List.{get_or_past}
use Rattle.vx_base.proofs.Maps.{at_key, at_other}
use Rattle.vx_base.specs.declared.kind.Kind.{Kind}
use Rattle.vx_base.specs.declared.kind.Kind.TheVariants.{Data, Reserved}
use Rattle.vx_extents.specs.Extents.{mapped_at}
use Rattle.vx_space.specs.Placing.{Filling}
use Rattle.vx_space.specs.Space.{Space}
use Rattle.vx_model.specs.Edits.{set_node}
use Rattle.vx_model.specs.LaidOut.{BeginsBelow, IsHeld, IsLaidOut}
use Rattle.vx_model.specs.Layout.{space_at}
use Rattle.vx_model.specs.State.{State}
use Rattle.vx_model.specs.Tree.{File, Node, IsFile}
use Rattle.vx_model.specs.Bytes.{overwritten, resized, written}
use Rattle.vx_model.specs.BytesLaws.{IsOverwritten, IsResized}
use Rattle.vx_model.proofs.Contents.{overwritten_is, resized_is}
use Rattle.vx_model.proofs.Spaces.{all_there}
use Rattle.vx_bytes.specs.BlockUse.{GivesUp}
use Rattle.vx_bytes.specs.Events.{LeavesOthers, IsGrownAt, IsLonger, IsMarkedChanged}
use Rattle.vx_bytes.specs.Places.{half_of, place_of, placed_in, sectors_of}
use Rattle.vx_bytes.specs.Promises.{file_in}
use Rattle.vx_bytes.specs.Standings.{Mark, part_of}
use Rattle.vx_bytes.proofs.FileCalls.{untouched_by, file_of, pick, pass}
use Rattle.vx_bytes.proofs.GivingUp.{gives_same}
use Rattle.vx_bytes.proofs.ReadOut.{file_found}

-- ---- no data page lies past a file's end

half_past : (o : Option (ℕ × Kind)) (i : ℕ) → ((m : ℕ × Kind) → o ≡ Some m → m.1 ≡ Data → ⊥) → half_of o i ≡ None
half_past None i none = refl
half_past (Some (b, Data)) i none = absurd (none (b, Data) refl refl)
half_past (Some (b, Reserved)) i none = refl

below_by : (s : State) (ino : ℕ) (f : File) (o : Option Node) → o ≡ Some (IsFile f) → IsHeld s.layout ino o → AllByRecursion (BeginsBelow (length f.bytes)) (space_at s.layout ino).present
below_by s ino f o is held = (let whole : IsHeld s.layout ino (Some (IsFile f)) = subst (IsHeld s.layout ino) is held in whole.0.space.present_below)

past_end : (s : State) (ino i : ℕ) (f : File) → IsLaidOut s → file_in s ino ≡ Ok f → length f.bytes ≤ 1024 * (i / 1024) → placed_in s ino (part_of i) ≡ None
unfolding sectors_of part_of
past_end s ino i f laid found past =
    let below : AllByRecursion (BeginsBelow (length f.bytes)) (space_at s.layout ino).present = below_by s ino f (map.get s.tree.nodes ino) (file_found s.tree.nodes ino f found) (laid.nodes ino) in
    half_past (mapped_at (space_at s.layout ino).present (i / 512 / 2)) ((i / 512) % 2)
    (λ m at data_is. let begins : 1024 * (i / 512 / 2) < length f.bytes = all_there (BeginsBelow (length f.bytes)) (i / 512 / 2) (space_at s.layout ino).present m below at data_is in omega (arith, begins, past))

-- ---- by the bytes and the marks

module _ (s new : State) (ino from count : ℕ) (f g : File) (before after : ℕ → Mark) (laid : IsLaidOut s) (was_file : file_in s ino ≡ Ok f) (is_file : file_in new ino ≡ Ok g) (longer : length f.bytes ≤ length g.bytes)
    (outside : (i : ℕ) → (i < from) ⊎ (from + count ≤ i) → get_or g.bytes i 0 ≡ get_or f.bytes i 0) (marks : IsMarkedChanged s new ino from count (length f.bytes) (length g.bytes) before after) where
  past_by : (i : ℕ) → i < length g.bytes → length f.bytes ≤ i → get_or g.bytes i 0 ≡ get_or f.bytes i 0 → IsGrownAt s new ino before after f g i
  past_by i lt above same = elim (cases_lt (1024 * (i / 1024)) (length f.bytes)) [
    | inl last ↦ inl (marks.old_end i above lt last)
    | inr past ↦ elim (marks.others (part_of i)) [
      | inl on ↦ inl on
      | inr kept ↦ inr (inr (same ∙ get_or_past f.bytes i 0 above, kept.1 ∙ past_end s ino i f laid was_file past))
    ]
  ]

  unwritten : (i : ℕ) → i < length g.bytes → get_or g.bytes i 0 ≡ get_or f.bytes i 0 → IsGrownAt s new ino before after f g i
  unwritten i lt same = elim (cases_lt i (length f.bytes)) [
    | inl below ↦ elim (marks.others (part_of i)) [ inl on ↦ inl on | inr kept ↦ inr (inl (below, same, kept.0, kept.1)) ]
    | inr above ↦ past_by i lt above same
  ]

  grown_at : (i : ℕ) → i < length g.bytes → IsGrownAt s new ino before after f g i
  grown_at i lt = elim (cases_lt i from) [
    | inl low ↦ unwritten i lt (outside i (inl low))
    | inr high ↦ elim (cases_lt i (from + count)) [
      | inl within_it ↦ inl (marks.written i high within_it)
      | inr above ↦ unwritten i lt (outside i (inr above))
    ]
  ]

  longer_by : ((p : ℕ) → (place_of new ino).sectors p ≡ (place_of s ino).sectors p) → (place_of new ino).size ≡ (place_of s ino).size → IsLonger s new ino before after
  longer_by sectors size = record { was = f; is = g; was_file = was_file; is_file = is_file; longer = longer; bytes = grown_at; sectors = sectors; size = size }

-- ---- a write

module _ (s : State) (ino offset : ℕ) (new : List ℕ) (f : File) (g : Filling) where
  abbrev wrote : State
  wrote = (written s ino offset new f g).state

  abbrev filled_space : Space
  filled_space = record (space_at s.layout ino) { present = g.pages }

  bytes_are : IsOverwritten offset new f.bytes (overwritten offset new f.bytes)
  bytes_are = overwritten_is offset new f.bytes

  outside_write : (i : ℕ) → (i < offset) ⊎ (offset + length new ≤ i) → get_or (overwritten offset new f.bytes) i 0 ≡ get_or f.bytes i 0
  outside_write i where_it = elim (cases_lt i (length f.bytes)) [
    | inl below ↦ elim where_it [ inl low ↦ bytes_are.below i low below | inr high ↦ bytes_are.above i high below ]
    | inr above ↦ elim where_it [
      | inl low ↦ bytes_are.between i above low ∙ sym (get_or_past f.bytes i 0 above)
      | inr high ↦ get_or_past (overwritten offset new f.bytes) i 0 (omega (arith, bytes_are.size, above, high)) ∙ sym (get_or_past f.bytes i 0 above)
    ]
  ]

  space_is : space_at wrote.layout ino ≡ filled_space
  space_is = pick (ino == ino) filled_space (space_at s.layout ino) (eq-eqb ino ino refl)

  pub write_is : (before after : ℕ → Mark) → IsLaidOut s → file_in s ino ≡ Ok f → IsMarkedChanged s wrote ino offset (length new) (length f.bytes) (max (length f.bytes) (offset + length new)) before after → IsLonger s wrote ino before after
  write_is before after laid found marks =
      longer_by s wrote ino offset (length new) f (record f { bytes = overwritten offset new f.bytes }) before after laid found
      (file_of wrote.tree.nodes ino (Some (IsFile (record f { bytes = overwritten offset new f.bytes }))) (at_key s.tree.nodes ino (IsFile (record f { bytes = overwritten offset new f.bytes }))))
      (omega (arith, bytes_are.size)) outside_write (subst (λ (k : ℕ). IsMarkedChanged s wrote ino offset (length new) (length f.bytes) k before after) (sym bytes_are.size) marks)
      (λ p. ap (λ (x : Space). sectors_of x.settled p) space_is) (ap (λ (x : Space). x.size) space_is)

  pub write_others : LeavesOthers s wrote ino
  write_others n other = untouched_by s wrote n (at_other s.tree.nodes ino (IsFile (record f { bytes = overwritten offset new f.bytes })) n other) (pass (n == ino) filled_space (space_at s.layout n) (ne_eqb n ino other))

write_settled : (s : State) (ino offset : ℕ) (new : List ℕ) (f : File) (g : Filling) (n : ℕ) → (space_at (written s ino offset new f g).state.layout n).settled ≡ (space_at s.layout n).settled
write_settled s ino offset new f g n = elim (cases_eq n ino) [
  | inl same ↦ ap (λ (x : Space). x.settled) (pick (n == ino) (record (space_at s.layout ino) { present = g.pages }) (space_at s.layout n) (eq-eqb n ino same)) ∙ ap (λ (k : ℕ). (space_at s.layout k).settled) (sym same)
  | inr other ↦ ap (λ (x : Space). x.settled) (pass (n == ino) (record (space_at s.layout ino) { present = g.pages }) (space_at s.layout n) (ne_eqb n ino other))
]

pub write_gives : (s : State) (place ino offset : ℕ) (new : List ℕ) (f : File) (g : Filling) → GivesUp s (written s ino offset new f g).state place
write_gives s place ino offset new f g = gives_same s (written s ino offset new f g).state place (write_settled s ino offset new f g) (λ b. refl)

-- ---- a truncate that is no smaller

module _ (s : State) (ino size : ℕ) (f : File) where
  abbrev extended : State
  extended = set_node s ino (IsFile (record f { bytes = resized size f.bytes }))

  sized : IsResized size f.bytes (resized size f.bytes)
  sized = resized_is size f.bytes

  outside_size : length f.bytes ≤ size → (i : ℕ) → (i < size) ⊎ (size + 0 ≤ i) → get_or (resized size f.bytes) i 0 ≡ get_or f.bytes i 0
  outside_size le i where_it = elim (cases_lt i size) [
    | inl low ↦ elim (cases_lt i (length f.bytes)) [
      | inl below ↦ sized.kept i low below
      | inr above ↦ sized.zeros i above low ∙ sym (get_or_past f.bytes i 0 above)
    ]
    | inr high ↦ get_or_past (resized size f.bytes) i 0 (omega (arith, sized.size_is, high)) ∙ sym (get_or_past f.bytes i 0 (omega (arith, le, high)))
  ]

  pub extend_is : (before after : ℕ → Mark) → IsLaidOut s → file_in s ino ≡ Ok f → length f.bytes ≤ size → IsMarkedChanged s extended ino size 0 (length f.bytes) size before after → IsLonger s extended ino before after
  extend_is before after laid found le marks =
      longer_by s extended ino size 0 f (record f { bytes = resized size f.bytes }) before after laid found
      (file_of extended.tree.nodes ino (Some (IsFile (record f { bytes = resized size f.bytes }))) (at_key s.tree.nodes ino (IsFile (record f { bytes = resized size f.bytes }))))
      (omega (arith, sized.size_is, le)) (outside_size le) (subst (λ (k : ℕ). IsMarkedChanged s extended ino size 0 (length f.bytes) k before after) (sym sized.size_is) marks) (λ p. refl) refl

  pub extend_others : LeavesOthers s extended ino
  extend_others n other = untouched_by s extended n (at_other s.tree.nodes ino (IsFile (record f { bytes = resized size f.bytes })) n other) refl

pub extend_gives : (s : State) (place ino size : ℕ) (f : File) → GivesUp s (set_node s ino (IsFile (record f { bytes = resized size f.bytes }))) place
extend_gives s place ino size f = gives_same s (set_node s ino (IsFile (record f { bytes = resized size f.bytes }))) place (λ n. refl) (λ b. refl)
