-- What calls on files do, in a user's words.
use Rattle.std.proofs.Common.{◌≡◌, ◌≢◌, ◌⊎◌, ℕ, ◌≤◌, Bool, true, false, cond, List, length, Some, None, Ok, Err, inl, inr, refl, sym, ap, ◌∙◌, subst, arith}
use Rattle.std.specs.Prelude.{◌==◌, nat_lt, min}
use Rattle.std.specs.FinMap as map
use Rattle.std.proofs.lemmas.Bool.{eqb-true, ltb-true}
use Rattle.std.specs.Cmp.{nat_cmp_total, tied_itself}
use Rattle.std.specs.Ordering.{nat_cmp, is_eq}
use Rattle.vx_base.proofs.Maps.{apart, at_key, at_other}
use Rattle.vx_base.specs.declared.call.Call.TheVariants as call
use Rattle.vx_base.specs.declared.call.Flag.{Flag}
use Rattle.vx_base.specs.declared.call.Payload.{Payload}
use Rattle.vx_base.specs.declared.reply.Reply.TheVariants as say
use Rattle.vx_base.specs.Fits.{payload_len}
use Rattle.vx_space.specs.Placing.{is_set}
use Rattle.vx_model.specs.Outcome.{Maybe}
use Rattle.vx_model.specs.Tree.{File, IsFile, HandleKey, Handles, Opened, Tree}
use Rattle.vx_model.specs.State.{State, Done, settled}
use Rattle.vx_model.specs.Walks.{file_at}
use Rattle.vx_model.specs.Edits.{with_nodes, set_node, drop_node}
use Rattle.vx_model.specs.Removing.{fine}
use Rattle.vx_model.specs.LaidOut.{IsClosed}
use Rattle.vx_model.specs.Handles.{key_of, is_open}
use Rattle.vx_model.specs.Opened.{with_handles, pages_of, with_reserve, unreserved, last_closed, closed_by, close}
use Rattle.vx_model.specs.Bytes.{payload_bytes, bytes_from, overwritten, resized, read, cut, read_file, write_file, write, cut_file, truncate_file, truncate, fsync}
use Rattle.vx_model.specs.Settling.{settle_file, settle}
use Rattle.vx_model.proofs.FileStep.{file_step}
use Rattle.vx_model.specs.BytesLaws.{IsOpenOn, IsFileChange, IsRead, IsOverwritten, IsResized, IsOpened, IsClosedNow}
use Rattle.vx_model.proofs.Contents.{payload_size, read_is, overwritten_is, resized_is, cut_is}
use Rattle.vx_model.proofs.Handles.{opened_here, opened_other, closed_here, closed_other, closed_is}
use Rattle.vx_model.proofs.FileSuccesses.{answered, resumes, opens, writes, truncates, fsyncs}

-- ---- the reply tells that a call was not refused

pub fine_ok : (s : State) (m : Maybe Done) (done : Done) → Some (settled s m) ≡ Some done → done.reply ≡ say.Fine → m ≡ Ok done
fine_ok s (Ok d) done h fine_reply = let e : d ≡ done = answered s (Ok d) done h in ap Ok e
fine_ok s (Err why) done h fine_reply = absurd cc

pub wrote_ok : (s : State) (m : Maybe Done) (count : ℕ) (done : Done) → Some (settled s m) ≡ Some done → done.reply ≡ say.Wrote count → m ≡ Ok done
wrote_ok s (Ok d) count done h wrote = let e : d ≡ done = answered s (Ok d) done h in ap Ok e
wrote_ok s (Err why) count done h wrote = absurd cc

-- ---- an inode is gone

pub removed_key : {X : Type 0} (m : map.FinMap nat_cmp X) (k : ℕ) → map.get (map.remove m k) k ≡ None
removed_key m k = map.get-remove nat_cmp_total m k k ∙ ap (λ b. cond b None (map.get m k)) (ap is_eq (tied_itself nat_cmp_total k))

pub removed_other : {X : Type 0} (m : map.FinMap nat_cmp X) (k q : ℕ) → q ≢ k → map.get (map.remove m k) q ≡ map.get m q
removed_other m k q ne = map.get-remove nat_cmp_total m k q ∙ ap (λ b. cond b None (map.get m q)) (apart nat_cmp map.nat_cmp-IsAntisymmetric q k ne)

-- ---- one file changes

changed : (t : Tree) (ino : ℕ) (was is : File) → is.mode ≡ was.mode → is.nlink ≡ was.nlink → is.attrs.fixed ≡ was.attrs.fixed → is.attrs.flags ≡ was.attrs.flags
    → IsFileChange t (record t { nodes = map.insert t.nodes ino (IsFile is) }) ino was is
changed t ino was is mode links fixed flags = record {
  there = at_key t.nodes ino (IsFile is);
  mode = mode;
  links = links;
  fixed = fixed;
  flags = flags;
  others = at_other t.nodes ino (IsFile is);
  handles = refl;
  tunables = refl;
  ticks = refl;
}

-- ---- calls on an open file

module _ (s : State) (session handle ino : ℕ) (f : File) (on : IsOpenOn s.tree session handle ino f) where
  pub told_read : (place offset count : ℕ) (done : Done) → file_step s place session (call.Read handle offset count) ≡ Some done
      → (answer : List ℕ) × (done.reply ≡ say.Got answer) × IsRead offset count f.bytes answer × (done.state ≡ s)
  told_read place offset count done h =
      let goes = resumes s session handle ino on.flag f (λ ino f. read_file s offset count f) on.opened on.there in
      let is : record { state = s; reply = say.Got (bytes_from offset count f.bytes) } ≡ done = ap (settled s) (sym goes) ∙ answered s (read s session handle offset count) done h in
      (bytes_from offset count f.bytes, ap (λ (d : Done). d.reply) (sym is), read_is offset count f.bytes, ap (λ (d : Done). d.state) (sym is))

  pub told_write : (place offset count : ℕ) (p : Payload) (done : Done) → file_step s place session (call.Write handle offset p) ≡ Some done → done.reply ≡ say.Wrote count
      → (count ≡ payload_len p) × (is : File) × IsFileChange s.tree done.state.tree ino f is × (is.attrs ≡ f.attrs) × IsOverwritten offset (payload_bytes p) f.bytes is.bytes
  told_write place offset count p done h wrote =
      let new : List ℕ = payload_bytes p in
      let went = wrote_ok s (write s session handle offset p) count done h wrote in
      let w = writes s ino offset new f done (sym (resumes s session handle ino on.flag f (λ ino f. write_file s ino offset new f) on.opened on.there) ∙ went) in
      let is : File = record f { bytes = overwritten offset new f.bytes } in
      let told : say.Wrote (length new) ≡ say.Wrote count = sym (ap (λ (d : Done). d.reply) w.is) ∙ wrote in
      let size : length new ≡ count = cc in (
        sym size ∙ payload_size p,
        is,
        subst (λ (d : Done). IsFileChange s.tree d.state.tree ino f is) (sym w.is) (changed s.tree ino f is refl refl refl refl),
        refl,
        overwritten_is offset new f.bytes,
      )

  abbrev IsSized : ℕ → State → Type 0
  IsSized size new = (is : File) × IsFileChange s.tree new.tree ino f is × (is.attrs.reserve ≤ f.attrs.reserve) × IsResized size f.bytes is.bytes

  told_sized : (place size : ℕ) (t : Bool) → nat_lt size (length f.bytes) ≡ t → IsSized size (cond t (cut s place ino size f) (set_node s ino (IsFile (record f { bytes = resized size f.bytes }))))
  told_sized place size true smaller =
      let is : File = cut_file size f in
      (is, changed s.tree ino f is refl refl refl refl, omega arith, cut_is size f.bytes (ltb-true size (length f.bytes) smaller))
  told_sized place size false larger =
      let is : File = record f { bytes = resized size f.bytes } in
      (is, changed s.tree ino f is refl refl refl refl, omega arith, resized_is size f.bytes)

  pub told_truncate : (place size : ℕ) (done : Done) → file_step s place session (call.Truncate handle size) ≡ Some done → done.reply ≡ say.Fine → IsSized size done.state
  told_truncate place size done h fine_reply =
      let went = fine_ok s (truncate s place session handle size) done h fine_reply in
      let w = truncates s place ino size f done (sym (resumes s session handle ino on.flag f (λ ino f. truncate_file s place ino size f) on.opened on.there) ∙ went) in
      subst (λ (d : Done). IsSized size d.state) (sym w.is)
      (told_sized place size (nat_lt size (length f.bytes)) refl)

  -- ---- close

  abbrev without : State
  without = with_handles s (map.remove s.tree.handles (key_of session handle))

  -- what becomes of the file
  abbrev IsLeft : Tree → Type 0
  IsLeft t =
      ((is : File) × (map.get t.nodes ino ≡ Some (IsFile is)) × (is.bytes ≡ f.bytes) × (is.mode ≡ f.mode) × (is.nlink ≡ f.nlink)) ⊎ ((map.get t.nodes ino ≡ None) × (f.nlink ≡ 0) × IsClosed t ino)

  -- the tree after the close
  record IsLast (t : Tree) : Type 0 where
    file : IsLeft t
    nodes : (n : ℕ) → n ≢ ino → map.get t.nodes n ≡ map.get s.tree.nodes n
    handles : t.handles ≡ map.remove s.tree.handles (key_of session handle)
    tunables : t.tunables ≡ s.tree.tunables
    ticks : t.ticks ≡ s.tree.ticks

  kept : IsLast without.tree
  kept = record { file = inl (f, on.there, refl, refl, refl); nodes = λ n ne. refl; handles = refl; tunables = refl; ticks = refl }

  reserve_less : (reserve : ℕ) → IsLast (with_nodes without.tree (map.insert s.tree.nodes ino (IsFile (record f { attrs = with_reserve f.attrs reserve }))))
  reserve_less reserve =
      let is : File = record f { attrs = with_reserve f.attrs reserve } in
      record { file = inl (is, at_key s.tree.nodes ino (IsFile is), refl, refl, refl); nodes = at_other s.tree.nodes ino (IsFile is); handles = refl; tunables = refl; ticks = refl }

  gone : f.nlink ≡ 0 → IsClosed without.tree ino → IsLast (with_nodes without.tree (map.remove s.tree.nodes ino))
  gone none closed = record { file = inr (removed_key s.tree.nodes ino, none, closed); nodes = removed_other s.tree.nodes ino; handles = refl; tunables = refl; ticks = refl }

  abbrev last : State → Type 0
  last new = IsLast new.tree

  told_last : (place : ℕ) (t u v : Bool) → (f.nlink == 0) ≡ t → IsClosed without.tree ino
      → last (cond t (drop_node without place ino) (cond u (unreserved without place ino f 0 0) (cond v (unreserved without place ino f (min f.attrs.reserve (pages_of (length f.bytes))) (pages_of (length f.bytes))) without)))
  told_last place true u v none closed = gone (eqb-true f.nlink 0 none) closed
  told_last place false true v some closed = reserve_less 0
  told_last place false false true some closed = reserve_less (min f.attrs.reserve (pages_of (length f.bytes)))
  told_last place false false false some closed = kept

  told_closed : (place : ℕ) (t : Bool) → is_open without.tree ino ≡ t → last (cond t without (last_closed without place ino f))
  told_closed place true other = kept
  told_closed place false none = told_last place (f.nlink == 0) (is_set 8 f.attrs) (is_set 16 f.attrs) refl (closed_is without.tree ino none)

  pub told_close : (place : ℕ) (done : Done) → file_step s place session (call.Close handle) ≡ Some done → (done.reply ≡ say.Fine) × IsClosedNow s.tree done.state.tree session handle ino f
  told_close place done h =
      let goes = resumes s session handle ino on.flag f (λ ino f. Ok (closed_by without place ino f)) on.opened on.there in
      let is : closed_by without place ino f ≡ done = ap (settled s) (sym goes) ∙ answered s (close s place session handle) done h in
      let key : HandleKey = key_of session handle in
      let left = told_closed place (is_open without.tree ino) refl in (
        ap (λ (d : Done). d.reply) (sym is),
        subst (λ (d : Done). IsClosedNow s.tree d.state.tree session handle ino f) is (record {
          free = ap (λ (m : Handles). map.get m key) left.handles ∙ closed_here s.tree.handles key;
          others = λ q ne. ap (λ (m : Handles). map.get m q) left.handles ∙ closed_other s.tree.handles key q ne;
          file = left.file;
          nodes = left.nodes;
          tunables = left.tunables;
          ticks = left.ticks;
        }),
      )

pub told_settle : (s : State) (place ino : ℕ) → (settle s place ino).tree ≡ s.tree
told_settle s place ino = by (file_at s.tree.nodes ino)
  where
    by : (m : Maybe File) → (settle_file s place ino m).tree ≡ s.tree
    by (Ok f) = refl
    by (Err why) = refl

pub told_open : (s : State) (place session handle : ℕ) (path : List ℕ) (flag : Flag) (done : Done) → file_step s place session (call.OpenFile handle path flag) ≡ Some done → done.reply ≡ say.Fine
    → IsOpened s.tree done.state.tree session handle path
told_open s place session handle path flag done h fine_reply =
    let o = opens s session handle path flag done (fine_ok s _ done h fine_reply) in
    let key : HandleKey = key_of session handle in
    let value : Opened = record { ino = o.ino; flag = flag } in
    subst (λ (d : Done). IsOpened s.tree d.state.tree session handle path) (sym o.is) (record {
      ino = o.ino;
      file = o.file;
      named = o.named;
      was_free = o.was_free;
      open_on = record { flag = flag; opened = opened_here s.tree.handles key value; there = o.there };
      others = opened_other s.tree.handles key value;
      nodes = refl;
      tunables = refl;
      ticks = refl;
    })

pub told_fsync : (s : State) (place session handle : ℕ) (done : Done) → file_step s place session (call.Fsync handle) ≡ Some done → done.state ≡ s
told_fsync s place session handle done h = by (fsync s session handle) (λ d. fsyncs s session handle d) h
  where
    by : (m : Maybe Done) → ((d : Done) → m ≡ Ok d → d ≡ fine s) → Some (settled s m) ≡ Some done → done.state ≡ s
    by (Ok d) is h = ap (λ (x : Done). x.state) (sym (answered s (Ok d) done h) ∙ is d refl)
    by (Err why) is h = ap (λ (x : Done). x.state) (sym (answered s (Err why) done h))
