-- What a call on a file did, where it was not refused.
use Rattle.std.proofs.Common.{◌≡◌, ℕ, ◌+◌, ◌≤◌, true, List, length, Option, Some, None, Ok, refl, ap, ◌∙◌}
use Rattle.std.specs.Prelude.{is_none, nat_le, nat_lt}
use Rattle.std.specs.FinMap as map
use Rattle.std.proofs.lemmas.Bool.{leb-true}
use Rattle.vx_base.specs.declared.call.Flag.{Flag}
use Rattle.vx_base.specs.declared.refusal.Refusal.TheVariants as no
use Rattle.vx_space.specs.Placing.{Filling}
use Rattle.vx_model.specs.Outcome.{Maybe, unless, ◌>>=◌, need}
use Rattle.vx_model.specs.Tree.{Nodes, Node, File, Opened, IsFile, IsDirectory}
use Rattle.vx_model.specs.State.{State, Done, settled}
use Rattle.vx_model.specs.Walks.{root, node_at, as_file, file_at, walk, names_of, inode_of}
use Rattle.vx_model.specs.Removing.{fine}
use Rattle.vx_model.specs.LaidOut.{most_bytes}
use Rattle.vx_model.proofs.Chains.{bind_ok, unless_ok, need_ok}
use Rattle.vx_model.specs.Handles.{key_of}
use Rattle.vx_model.specs.Opened.{with_handles, opened_at, most_open, open_file, open_inode, open_along, open_path}
use Rattle.vx_model.specs.Bytes.{may_end_at, if_fits, first_page, page_count, write_filling, written, write_file, sized, truncate_file, fsync}

pub ok_is : {A : Type 0} (x y : A) → ◌≡◌ {A = Maybe A} (Ok x) (Ok y) → y ≡ x
ok_is x y h = cc

-- a call that was answered so was not refused
pub answered : (s : State) (m : Maybe Done) (done : Done) → Some (settled s m) ≡ Some done → settled s m ≡ done
answered s m done h = cc

file_is : (node : Node) (f : File) → as_file node ≡ Ok f → node ≡ IsFile f
file_is (IsFile g) f h = let e : g ≡ f = cc in ap IsFile e
file_is (IsDirectory d) f h = absurd cc

pub file_ok : (nodes : Nodes) (ino : ℕ) (f : File) → file_at nodes ino ≡ Ok f → map.get nodes ino ≡ Some (IsFile f)
file_ok nodes ino f h =
    let found = bind_ok (node_at nodes ino) as_file f h in
    need_ok (map.get nodes ino) no.NoEnt found.0 found.1 ∙ ap Some (file_is found.0 f found.2)

pub file_found : (nodes : Nodes) (ino : ℕ) (f : File) → map.get nodes ino ≡ Some (IsFile f) → file_at nodes ino ≡ Ok f
file_found nodes ino f h = ap (λ (o : Option Node). need o no.NoEnt >>= as_file) h

none_is : {A : Type 0} (o : Option A) → is_none o ≡ true → o ≡ None
none_is None h = refl
none_is (Some x) h = absurd cc

-- ---- open

pub record Opens (s : State) (session handle : ℕ) (path : List ℕ) (flag : Flag) (done : Done) : Type 0 where
  pub ino : ℕ
  pub file : File
  pub was_free : map.get s.tree.handles (key_of session handle) ≡ None
  pub named : inode_of s.tree.nodes path ≡ Ok ino
  pub there : map.get s.tree.nodes ino ≡ Some (IsFile file)
  pub is : done ≡ fine (with_handles s (map.insert s.tree.handles (key_of session handle) (record { ino = ino; flag = flag })))

pub opens : (s : State) (session handle : ℕ) (path : List ℕ) (flag : Flag) (done : Done) → open_path s session handle path flag ≡ Ok done → Opens s session handle path flag done
opens s session handle path flag done h =
    let key = key_of session handle in
    let free = unless_ok (is_none (map.get s.tree.handles key)) no.BadHandle (names_of path >>= open_along s key flag) done h in
    let names = bind_ok (names_of path) (open_along s key flag) done free.1 in
    let ino = bind_ok (walk s.tree.nodes root names.0) (open_inode s key flag) done names.2 in
    let f = bind_ok (file_at s.tree.nodes ino.0) (open_file s key flag ino.0) done ino.2 in
    let next : Done = fine (with_handles s (map.insert s.tree.handles key (record { ino = ino.0; flag = flag }))) in
    let few = unless_ok (nat_lt (map.len s.tree.handles) most_open) (no.TooManyOpen (map.len s.tree.handles)) (Ok next) done f.2 in
    record {
      ino = ino.0;
      file = f.0;
      was_free = none_is (map.get s.tree.handles key) free.0;
      named = ap (λ m. m >>= walk s.tree.nodes root) names.1 ∙ ino.1;
      there = file_ok s.tree.nodes ino.0 f.0 f.1;
      is = ok_is next done few.1;
    }

-- ---- a handle that is open

pub record IsOpenAt (s : State) (session handle : ℕ) : Type 0 where
  pub ino : ℕ
  pub flag : Flag
  pub file : File
  pub opened : map.get s.tree.handles (key_of session handle) ≡ Some (record { ino = ino; flag = flag })
  pub there : map.get s.tree.nodes ino ≡ Some (IsFile file)

-- what a call on an open file does goes on with that file
pub record GoesOn (s : State) (session handle : ℕ) (rest : ℕ → File → Maybe Done) (done : Done) : Type 0 where
  pub on : IsOpenAt s session handle
  pub is : rest on.ino on.file ≡ Ok done

pub goes_on : (s : State) (session handle : ℕ) (rest : ℕ → File → Maybe Done) (done : Done) → (opened_at s.tree session handle >>= (λ o. file_at s.tree.nodes o.ino >>= rest o.ino)) ≡ Ok done
    → GoesOn s session handle rest done
goes_on s session handle rest done h =
    let o = bind_ok (opened_at s.tree session handle) (λ (o : Opened). file_at s.tree.nodes o.ino >>= rest o.ino) done h in
    let f = bind_ok (file_at s.tree.nodes o.0.ino) (rest o.0.ino) done o.2 in
    record {
      on = record {
        ino = o.0.ino;
        flag = o.0.flag;
        file = f.0;
        opened = need_ok (map.get s.tree.handles (key_of session handle)) no.BadHandle o.0 o.1;
        there = file_ok s.tree.nodes o.0.ino f.0 f.1;
      };
      is = f.2;
    }

-- where a handle is open on a file, the call goes on with it
pub resumes : (s : State) (session handle ino : ℕ) (flag : Flag) (f : File) (rest : ℕ → File → Maybe Done) → map.get s.tree.handles (key_of session handle) ≡ Some (record { ino = ino; flag = flag })
    → map.get s.tree.nodes ino ≡ Some (IsFile f) → (opened_at s.tree session handle >>= (λ o. file_at s.tree.nodes o.ino >>= rest o.ino)) ≡ rest ino f
resumes s session handle ino flag f rest opened there =
    ap (λ (o : Option Opened). need o no.BadHandle >>= (λ o. file_at s.tree.nodes o.ino >>= rest o.ino)) opened ∙ ap (λ (o : Option Node). need o no.NoEnt >>= as_file >>= rest ino) there

-- ---- where a file may end

pub fits_ok : (f : File) (end : ℕ) (rest : Maybe Done) (done : Done) → if_fits f end rest ≡ Ok done → (end ≤ most_bytes) × (rest ≡ Ok done)
fits_ok f end rest done h =
    let extends = unless_ok (may_end_at f end) _ (unless (nat_le end most_bytes) (no.TooBig end) rest) done h in
    let fits = unless_ok (nat_le end most_bytes) (no.TooBig end) rest done extends.1 in
    (leb-true end most_bytes fits.0, fits.1)

-- ---- write

pub record Writes (s : State) (ino offset : ℕ) (new : List ℕ) (f : File) (done : Done) : Type 0 where
  pub fits : offset + length new ≤ most_bytes
  pub placed : Filling
  pub place_is : write_filling s.layout s.tree.tunables.initial_extent_size ino f (first_page offset) (page_count offset (length new)) ≡ Ok placed
  pub is : done ≡ written s ino offset new f placed

pub writes : (s : State) (ino offset : ℕ) (new : List ℕ) (f : File) (done : Done) → write_file s ino offset new f ≡ Ok done → Writes s ino offset new f done
writes s ino offset new f done h =
    let place : Maybe Filling = write_filling s.layout s.tree.tunables.initial_extent_size ino f (first_page offset) (page_count offset (length new)) in
    let fits = fits_ok f (offset + length new) (place >>= (λ g. Ok (written s ino offset new f g))) done h in
    let placed = bind_ok place (λ g. Ok (written s ino offset new f g)) done fits.1 in
    record { fits = fits.0; placed = placed.0; place_is = placed.1; is = ok_is (written s ino offset new f placed.0) done placed.2 }

-- ---- truncate

pub record Truncates (s : State) (place ino size : ℕ) (f : File) (done : Done) : Type 0 where
  pub fits : size ≤ most_bytes
  pub is : done ≡ fine (sized s place ino size f)

pub truncates : (s : State) (place ino size : ℕ) (f : File) (done : Done) → truncate_file s place ino size f ≡ Ok done → Truncates s place ino size f done
truncates s place ino size f done h =
    let fits = fits_ok f size (Ok (fine (sized s place ino size f))) done h in
    record { fits = fits.0; is = ok_is (fine (sized s place ino size f)) done fits.1 }

-- ---- fsync

pub fsyncs : (s : State) (session handle : ℕ) (done : Done) → fsync s session handle ≡ Ok done → done ≡ fine s
fsyncs s session handle done h = let o = bind_ok (opened_at s.tree session handle) (λ (o : Opened). Ok (fine s)) done h in ok_is (fine s) done o.2
