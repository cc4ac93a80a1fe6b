-- Where a mount begins, and a new file system, which has no files.
use Rattle.std.proofs.Common.{◌≡◌, ◌⊎◌, ◌<◌, ℕ, [], refl, sym, ◌∙◌, subst, inl, inr, arith}
use Rattle.std.specs.Prelude.{Option, Some, None}
use Rattle.std.specs.FinMap as map
use Rattle.std.specs.Ordering.{nat_cmp}
use Rattle.std.proofs.lemmas.Bool.{cases_eq}
use Rattle.vx_base.proofs.Maps.{at_key, at_other}
use Rattle.vx_base.specs.declared.mode.Logging.{Logging}
use Rattle.vx_base.specs.declared.refusal.Refusal.TheVariants as why
use Rattle.vx_dev.specs.Tape.{Tape}
use Rattle.vx_layout.specs.declared.superblock.Super.{Super}
use Rattle.vx_model.specs.LaidOut.{IsLaidOut}
use Rattle.vx_model.specs.Legal.{World, opening}
use Rattle.vx_model.specs.Outcome.{need, ◌>>=◌}
use Rattle.vx_model.specs.State.{fresh_of}
use Rattle.vx_model.specs.Tree.{Node, new_directory}
use Rattle.vx_model.specs.Walks.{as_file}
use Rattle.vx_bytes.specs.Course.{May, SizeMay}
use Rattle.vx_bytes.specs.Stories.{size_course, byte_course}
use Rattle.vx_bytes.specs.Standings.{Shown, Reads, part_of, within}
use Rattle.vx_bytes.specs.Histories.{state_at, present, story, size_of}
use Rattle.vx_bytes.specs.Promises.{file_in}
use Rattle.vx_bytes.specs.Places.{place_of, sectors_of}
use Rattle.vx_bytes.specs.Kept.{HoldsFiles, IsOpened, at_start, sinces_from}
use Rattle.vx_bytes.specs.BlockUse.{AreSpaces, UsesBlocks}
use Rattle.vx_bytes.proofs.Courses.{joined_self}
use Rattle.vx_bytes.proofs.Shows.{byte_now, size_now}
use Rattle.vx_bytes.proofs.BlockTurns.{uses_all}

module _ (mode : Logging) (o : World) (t : Tape) (opened : IsOpened (present o []) t) where
  shown_start : (n : ℕ) → Shown (story mode o [] n) (record { k = 0; place = place_of (present o []) n; since = λ i. 0; size_since = 0 }) t
  unfolding story
  shown_start n = record {
    inside = omega arith;
    recent = λ i. omega arith;
    size_recent = omega arith;
    size = subst (λ (k : ℕ). SizeMay 0 (size_course (story mode o [] n)) 0 k) (sym (opened.size n)) (size_now (story mode o [] n) 0 0 (omega arith) (joined_self (size_course (story mode o [] n)) 0));
    bytes = λ i v lt r. subst (λ (k : ℕ). May 0 (byte_course (story mode o [] n) i) 0 k) (sym (opened.bytes n i v (subst (λ (k : ℕ). i < k) (opened.size n) lt) r)) (byte_now (story mode o [] n) i 0 0 (omega arith) (joined_self (byte_course (story mode o [] n) i) 0));
  }

  pub files_start : HoldsFiles mode o [] at_start (sinces_from 0) t
  unfolding story
  files_start n = record {
    committed = shown_start n;
    closing = shown_start n;
    present = shown_start n;
    present_is = refl;
    order = record { k = omega arith; since = λ i. omega arith; size_since = omega arith };
    order_present = record { k = omega arith; since = λ i. omega arith; size_since = omega arith };
    apart = record { itself = opened.alone n; committed = λ p q s x y. opened.alone n p q s x (opened.placed n q ∙ y); closing = λ p q s x y. opened.alone n p q s x (opened.placed n q ∙ y); present = λ p q s x y. opened.alone n p q s x (opened.placed n q ∙ y) };
    uncut = λ i j from to. absurd (omega (arith, to));
    marked = λ i lt w r. opened.bytes n i w lt (subst (λ (s : Option ℕ). Reads t s (within i) w) (opened.placed n (part_of i)) r);
  }

-- ---- a new file system

none_sized : (o : Option Node) → (o ≡ None) ⊎ (o ≡ Some (new_directory 493)) → size_of (need o why.NoEnt >>= as_file) ≡ 0
none_sized o (inl none) = rw none refl
none_sized o (inr root) = rw root refl

nodes_of_root : (n : ℕ) → (map.get {R = nat_cmp} (map.insert map.empty 2 (new_directory 493)) n ≡ None) ⊎ (map.get {R = nat_cmp} (map.insert map.empty 2 (new_directory 493)) n ≡ Some (new_directory 493))
nodes_of_root n = elim (cases_eq n 2) [
  | inl here ↦ inr (subst (λ (k : ℕ). map.get {R = nat_cmp} (map.insert map.empty 2 (new_directory 493)) k ≡ Some (new_directory 493)) (sym here) (at_key map.empty 2 (new_directory 493)))
  | inr other ↦ inl (at_other map.empty 2 (new_directory 493) n other ∙ map.get-empty nat_cmp n)
]

no_size : (v : Super) (limit device_sectors n : ℕ) → size_of (file_in (fresh_of v limit device_sectors) n) ≡ 0
no_size v limit device_sectors n = none_sized _ (nodes_of_root n)

pub fresh_opened : (v : Super) (limit device_sectors : ℕ) (t : Tape) → IsOpened (fresh_of v limit device_sectors) t
unfolding sectors_of
fresh_opened v limit device_sectors t = record {
  size = λ n. sym (no_size v limit device_sectors n);
  bytes = λ n i v2 lt r. absurd (omega (arith, lt, no_size v limit device_sectors n));
  placed = λ n q. refl;
  alone = λ n p q s x y. absurd cc;
}

pub fresh_files : (mode : Logging) (at : ℕ) (v : Super) (limit device_sectors : ℕ) (t : Tape) → HoldsFiles mode (opening at (fresh_of v limit device_sectors)) [] at_start (sinces_from 0) t
unfolding state_at
fresh_files mode at v limit device_sectors t = files_start mode (opening at (fresh_of v limit device_sectors)) t (fresh_opened v limit device_sectors t)

pub start_uses : (o : World) → IsLaidOut o.state → AreSpaces o.state → UsesBlocks o [] 0 0
unfolding state_at
start_uses o laid spaces = uses_all o [] laid.use_of_blocks spaces

pub fresh_spaces : (v : Super) (limit device_sectors : ℕ) → AreSpaces (fresh_of v limit device_sectors)
fresh_spaces v limit device_sectors n = (tt, tt)

pub opened_files : (mode : Logging) (o : World) (t : Tape) → IsOpened o.state t → HoldsFiles mode o [] at_start (sinces_from 0) t
unfolding state_at
opened_files mode o t opened = files_start mode o t opened

pub fresh_uses : (at : ℕ) (v : Super) (limit device_sectors : ℕ) → IsLaidOut (fresh_of v limit device_sectors) → UsesBlocks (opening at (fresh_of v limit device_sectors)) [] 0 0
fresh_uses at v limit device_sectors laid = start_uses (opening at (fresh_of v limit device_sectors)) laid (fresh_spaces v limit device_sectors)
