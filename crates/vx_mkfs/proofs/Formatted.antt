-- What a device would hold after a barrier, as it is formatted.
use Rattle.std.proofs.Common.{◌≡◌, ◌≢◌, ◌⊎◌, ℕ, ◌+◌, ◌<◌, List, Option, Some, None, sym, subst, arith, inl, inr, true, false, ◌≤◌, lit<, lit≤}
use Rattle.std.specs.Prelude.{IfSome, option_map, Result, Ok, Err, OnOk}
use Rattle.std.proofs.lemmas.Bool.{cases_eq}
use Rattle.vx_dev.specs.declared.device.Operation.{Operation}
use Rattle.vx_dev.specs.declared.device.Operation.TheVariants.{Put, Barrier}
use Rattle.vx_dev.specs.Laws.{TapeLaws}
use Rattle.vx_dev.specs.Tape.{Tape, State, Did, did, now, Settles}
use Rattle.vx_layout.specs.declared.superblock.Super.{Super}
use Rattle.vx_layout.specs.LogForms.{head_sector}
use Rattle.vx_layout.specs.Places.{Volume, bitmap_sector, sectors_of}
use Rattle.vx_layout.specs.Supers.{IsSuper, super_bytes, volume_of}
use Rattle.vx_dev.specs.Moments.{Told}
use Rattle.vx_sound.specs.Sound.{IsSound}
use Rattle.vx_model.specs.Contents.{unit_sectors, unit_bytes, IsFormatted}
use Rattle.vx_model.specs.Reads.{ImageReadsAs}
use Rattle.vx_model.specs.Replays.{IsLeft}
use Rattle.vx_model.specs.Tree.{empty_root}
use Rattle.vx_mkfs.specs.Formats.{HasUnit, HasUnits, IsNewImage}

-- ---- one operation after another

told_did : (op : Operation) (old : Option Tape) (P Q : Tape → Type 0) → ((t : Tape) → P t → Q (did op t)) → IfSome old P → IfSome (option_map (did op) old) Q
told_did op None P Q step h = tt
told_did op (Some t) P Q step h = step t h

told_more : (op : Operation) (old new : State) (P Q : Tape → Type 0) → Did op old new → ((t : Tape) → P t → Q (did op t)) → Told old P → Told new Q
told_more op old new P Q more step h = subst (λ (o : Option Tape). IfSome o Q) (sym more.told) (told_did op old.told P Q step h)

pub on_ok : {T E : Type 0} (r : Result T E) (P Q : Type 0) → (P → Q) → OnOk r P → OnOk r Q
on_ok (Ok x) P Q f h = f h
on_ok (Err e) P Q f h = tt

if_some : (o : Option Tape) (P Q : Tape → Type 0) → ((t : Tape) → P t → Q t) → IfSome o P → IfSome o Q
if_some None P Q f h = tt
if_some (Some t) P Q f h = f t h

pub told_as : (d : State) (P Q : Tape → Type 0) → ((t : Tape) → P t → Q t) → Told d P → Told d Q
told_as d P Q f h = if_some d.told P Q f h

always : (o : Option Tape) (P : Tape → Type 0) → ((t : Tape) → P t) → IfSome o P
always None P h = tt
always (Some t) P h = h t

-- before the first unit
pub no_units : (v : Volume) (d : State) → Told d (HasUnits v 0)
no_units v d = always d.told (HasUnits v 0) (λ t u lt. absurd (omega (arith, lt)))

-- ---- the units

-- a barrier now would leave the units before u, and the first k sectors of u
abbrev pub IsWithin : Volume → ℕ → ℕ → Tape → Type 0
IsWithin v u k t = HasUnits v u t × HasUnit v u k t

pub unit_begun : (v : Volume) (u : ℕ) (d : State) → Told d (HasUnits v u) → Told d (IsWithin v u 0)
unit_begun v u d h = told_as d (HasUnits v u) (IsWithin v u 0) (λ t units. (units, λ i lt. absurd (omega (arith, lt)))) h

all_units : (v : Volume) (u : ℕ) (t : Tape) → IsWithin v u (unit_sectors v) t → (w : ℕ) → w < u + 1 → (w ≡ u) ⊎ (w ≢ u) → HasUnit v w (unit_sectors v) t
all_units v u t h w lt (inl same) = subst (λ (x : ℕ). HasUnit v x (unit_sectors v) t) (sym same) h.1
all_units v u t h w lt (inr other) = h.0 w (omega arith)

pub unit_done : (v : Volume) (u : ℕ) (d : State) → Told d (IsWithin v u (unit_sectors v)) → Told d (HasUnits v (u + 1))
unit_done v u d h = told_as d (IsWithin v u (unit_sectors v)) (HasUnits v (u + 1)) (λ t within w lt. all_units v u t within w lt (cases_eq w u)) h

module _ (laws : TapeLaws) (s : Super) where
  abbrev v : Volume
  v = volume_of s

  next_sector : (u k : ℕ) (t : Tape) → HasUnit v u k t → (i : ℕ) → i < k + 1 → (i ≡ k) ⊎ (i ≢ k)
      → Settles (did (Put (bitmap_sector v u + k) (unit_bytes 2 u k)) t) (bitmap_sector v u + i) (unit_bytes 2 u i)
  next_sector u k t h i lt (inl same) =
      subst (λ (j : ℕ). Settles (did (Put (bitmap_sector v u + k) (unit_bytes 2 u k)) t) (bitmap_sector v u + j) (unit_bytes 2 u j)) (sym same)
      (laws.put_settles t (bitmap_sector v u + k) (unit_bytes 2 u k))
  next_sector u k t h i lt (inr other) =
      laws.put_elsewhere t (bitmap_sector v u + k) (bitmap_sector v u + i) (unit_bytes 2 u k) (unit_bytes 2 u i) (λ e. other (omega (arith, e)))
      (h i (omega arith))

  put_sector : (u k : ℕ) (t : Tape) → k < 66 → IsWithin v u k t → IsWithin v u (k + 1) (did (Put (bitmap_sector v u + k) (unit_bytes 2 u k)) t)
  put_sector u k t low h = (
    λ w lt i below. laws.put_elsewhere t (bitmap_sector v u + k) (bitmap_sector v w + i) (unit_bytes 2 u k) (unit_bytes 2 w i) (λ e. omega arith) (h.0 w lt i below),
    λ i lt. next_sector u k t h.1 i lt (cases_eq i k),
  )

  pub unit_more : (u k : ℕ) (old new : State) → k < 66 → Did (Put (bitmap_sector v u + k) (unit_bytes 2 u k)) old new → Told old (IsWithin v u k) → Told new (IsWithin v u (k + 1))
  unit_more u k old new low put h = told_more (Put (bitmap_sector v u + k) (unit_bytes 2 u k)) old new (IsWithin v u k) (IsWithin v u (k + 1)) put (λ t had. put_sector u k t low had) h

  -- ---- the log's head and the superblock

  abbrev HasHead : Tape → Type 0
  HasHead t = HasUnits v s.units t × Settles t 2 (head_sector 1 0 0)

  abbrev HasAll : Tape → Type 0
  HasAll t = HasHead t × Settles t 0 (super_bytes s)

  put_head : (t : Tape) → HasUnits v s.units t → HasHead (did (Put 2 (head_sector 1 0 0)) t)
  put_head t h = (
    λ u lt i below. laws.put_elsewhere t 2 (bitmap_sector v u + i) (head_sector 1 0 0) (unit_bytes 2 u i) (λ e. omega arith) (h u lt i below),
    laws.put_settles t 2 (head_sector 1 0 0),
  )

  pass_head : (t : Tape) → HasHead t → HasHead (did Barrier t)
  pass_head t h = (λ u lt i below. laws.barrier_settles t (bitmap_sector v u + i) (unit_bytes 2 u i) (h.0 u lt i below), laws.barrier_settles t 2 (head_sector 1 0 0) h.1)

  put_superblock : (t : Tape) → HasHead t → HasAll (did (Put 0 (super_bytes s)) t)
  put_superblock t h = (
    (
      λ u lt i below. laws.put_elsewhere t 0 (bitmap_sector v u + i) (super_bytes s) (unit_bytes 2 u i) (λ e. omega arith) (h.0 u lt i below),
      laws.put_elsewhere t 0 2 (super_bytes s) (head_sector 1 0 0) (λ e. omega arith) h.1,
    ),
    laws.put_settles t 0 (super_bytes s),
  )

  pass_all : (t : Tape) → HasAll t → IsNewImage s (did Barrier t)
  pass_all t h = record {
    one = λ q x may. laws.barrier_leaves_one t q x may;
    superblock = h.1 (now (did Barrier t) 0) (laws.now_may (did Barrier t) 0);
    head = h.0.1 (now (did Barrier t) 2) (laws.now_may (did Barrier t) 2);
    units = λ u i lt below. h.0.0 u lt i below (now (did Barrier t) (bitmap_sector v u + i)) (laws.now_may (did Barrier t) (bitmap_sector v u + i));
  }

  -- after the steps behind the units
  pub formatted : (units head settled super new : State) → Told units (HasUnits v s.units)
      → Did (Put 2 (head_sector 1 0 0)) units head → Did Barrier head settled → Did (Put 0 (super_bytes s)) settled super → Did Barrier super new
      → Told new (IsNewImage s)
  formatted units head settled super new h first second third last =
      told_more Barrier super new HasAll (IsNewImage s) last pass_all
      (told_more (Put 0 (super_bytes s)) settled super HasHead HasAll third put_superblock
      (told_more Barrier head settled HasHead HasHead second pass_head
      (told_more (Put 2 (head_sector 1 0 0)) units head (HasUnits v s.units) HasHead first put_head h)))

-- a new image whose superblock is marked clean was left clean
module _ (s : Super) (is : IsSuper s) (device_sectors : ℕ) (room : sectors_of (volume_of s) ≤ device_sectors) (clean : s.clean ≡ true)
    (sound : (image : ℕ → List ℕ) → IsFormatted (volume_of s) image → IsSound false (volume_of s) image)
    (reads : (image : ℕ → List ℕ) → IsFormatted (volume_of s) image → ImageReadsAs (volume_of s) image empty_root) where
  left_by : (t : Tape) → IsNewImage s t → IsLeft device_sectors empty_root t
  left_by t new = record {
    one = new.one;
    clean = record {
      superblock = s;
      is_super = is;
      superblock_is = new.superblock;
      clean = clean;
      room = room;
      serial = 1;
      tail = 0;
      serial_limit = lit< tt;
      limit = lit≤ tt;
      head_is = new.head;
      sound = sound (now t) new.units;
      reads = reads (now t) new.units;
    };
  }

  pub left : (d : State) → Told d (IsNewImage s) → Told d (IsLeft device_sectors empty_root)
  left d new = told_as d (IsNewImage s) (IsLeft device_sectors empty_root) left_by new
