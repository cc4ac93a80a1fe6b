-- A further name of a file.
use Rattle.std.proofs.Common.{◌≡◌, ℕ, ◌+◌, ◌<◌, ◌≤◌, ltb, Option, Some, Ok, Err, ◌∙◌, ap, arith}
use Rattle.std.specs.Prelude.{is_none}
use Rattle.std.proofs.lemmas.Bool.{lt-ltb, le-ltb}
use Rattle.std.specs.FinMap as map
use Rattle.vx_base.specs.declared.refusal.Refusal.TheVariants as no
use Rattle.vx_base.specs.Paths.{FileName}
use Rattle.vx_model.specs.Outcome.{Maybe, unless, ◌>>=◌}
use Rattle.vx_model.specs.Tree.{File, Directory, IsFile, IsDirectory}
use Rattle.vx_model.specs.State.{State, Done}
use Rattle.vx_model.specs.Linking.{link_at, link_in}
use Rattle.vx_model.specs.Removing.{fine}
use Rattle.vx_model.specs.Edits.{add_name, set_node}
use Rattle.vx_txn.specs.Links.{link_to}
use Rattle.vx_txn.specs.Removals.{links_of}
use Rattle.vx_txn.proofs.Lookups.{IsFileOf, IsWithout, file_of, node_directory}

abbrev pub linked : ℕ → File → State → Maybe Done
linked ino f named = Ok (fine (set_node named ino (IsFile (record f { nlink = f.nlink + 1 }))))

module _ (s : State) (ino nlink at : ℕ) (name : FileName) (file : links_of s.tree.nodes ino ≡ Ok nlink) where
  abbrev f : IsFileOf s.tree.nodes ino nlink
  f = file_of s.tree.nodes ino nlink file

  to_file : link_to s ino at name ≡ link_at s ino f.file name at
  to_file = ap (λ (m : Maybe File). m >>= (λ (g : File). link_at s ino g name at)) f.file_is

  module _ (w : IsWithout s.tree.nodes at name) where
    to_directory : link_to s ino at name ≡ unless (ltb f.file.nlink 32767) (no.TooManyLinks f.file.nlink) (add_name s at name ino >>= linked ino f.file)
    to_directory =
        to_file ∙ ap (λ (m : Maybe Directory). m >>= link_in s ino f.file at name) (node_directory s.tree.nodes at w.directory w.found)
        ∙ ap (λ (o : Option ℕ). unless (is_none o) no.Exist (unless (ltb f.file.nlink 32767) (no.TooManyLinks f.file.nlink) (add_name s at name ino >>= linked ino f.file))) w.absent

    pub too_many : 32767 ≤ nlink → link_to s ino at name ≡ Err (no.TooManyLinks nlink)
    too_many most =
        let counted : f.file.nlink ≡ nlink = f.counted in
        to_directory ∙ ap (λ b. unless b (no.TooManyLinks f.file.nlink) (add_name s at name ino >>= linked ino f.file)) (le-ltb f.file.nlink 32767 (omega arith))
        ∙ ap (λ (n : ℕ). Err (no.TooManyLinks n)) counted

    pub one_more : nlink < 32767 → link_to s ino at name ≡ (add_name s at name ino >>= linked ino f.file)
    one_more fewer =
        let counted : f.file.nlink ≡ nlink = f.counted in
        to_directory ∙ ap (λ b. unless b (no.TooManyLinks f.file.nlink) (add_name s at name ino >>= linked ino f.file)) (lt-ltb f.file.nlink 32767 (omega arith))

  -- the name is there
  pub exists : (d : Directory) (n : ℕ) → map.get s.tree.nodes at ≡ Some (IsDirectory d) → map.get d.entries name ≡ Some n → link_to s ino at name ≡ Err no.Exist
  exists d n found has =
      to_file ∙ ap (λ (m : Maybe Directory). m >>= link_in s ino f.file at name) (node_directory s.tree.nodes at d found)
      ∙ ap (λ (o : Option ℕ). unless (is_none o) no.Exist (unless (ltb f.file.nlink 32767) (no.TooManyLinks f.file.nlink) (add_name s at name ino >>= linked ino f.file))) has
