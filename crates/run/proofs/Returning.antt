-- Load, begin and write give a file's bytes before its first act. Assumes nothing.
use Rattle.std.proofs.Common.{◌≡◌, ℕ, ◌≤◌, List, length, Some, is_ok, sym, ap, ◌∙◌, arith}
use Rattle.field.specs.declared.Link.{Link}
use Rattle.field.specs.declared.Loss.{Loss}
use Rattle.field.specs.declared.Row.{Row}
use Rattle.field.specs.declared.Settings.{Settings}
use Rattle.filed.specs.Codes.{lawful_value}
use Rattle.filed.specs.Values.{lawful_of}
use Rattle.checking.proofs.Passes.{passed}
use Rattle.checking.specs.Cases.{file_code, file_smax}
use Rattle.loading.proofs.Loaded.{links_long, loaded_bytes, loaded_vets}
use Rattle.numbering.specs.Meaning.{Meaning}
use Rattle.recording.specs.Bytes.{field_bytes}
use Rattle.run.specs.Returning.{LoadBeginWrite, WriteLaws, filled_field, filled_losses, filled_rows}
use Rattle.run.specs.Writing.{Filing}
use Rattle.run.proofs.Begins.{begins_there, start, writes_as_begun, written_there}

-- the same bytes, by the same code and smax
same_head :
    {Num : Type 0} (worth : Num → ℕ) {code coded smax top : ℕ} (s : Settings) (rows : List (Row Num)) (links : List Link) (losses : List Loss)
    → code ≡ coded → smax ≡ top → field_bytes worth code smax s rows links losses ≡ field_bytes worth coded top s rows links losses
same_head worth s rows links losses code smax = rw (code, smax)

module _
    {Num : Type 0} (m : Meaning Num) (filing : Filing Num) (undone : (v : ℕ) (x : Num) → filing.of v ≡ Some x → filing.worth x ≡ v)
    (values : (v : ℕ) → lawful_value filing.code filing.smax v ≡ lawful_of m filing.of v) where
  gives_back : LoadBeginWrite m filing
  gives_back s file is rows links losses senders long =
      let ok = passed file (ap is_ok is.passes) in
      let own : (v : ℕ) → lawful_value (file_code file) (file_smax file) v ≡ lawful_of m filing.of v =
      λ v. ap (λ (k : ℕ). lawful_value k (file_smax file) v) (sym is.code_is) ∙ ap (λ (k : ℕ). lawful_value filing.code k v) (sym is.smax_is) ∙ values v in
      let field = filled_field m s file links in
      let all = filled_rows filing file rows in
      let lost = filled_losses file losses in
      let vets = loaded_vets file ok is.bytes m filing.of own s is.settings rows links losses long.of_rows long.of_links long.of_losses in
      let links_there = long.of_links in
      let there : field.count ≤ length field.links = omega (arith, links_long file links) in
      let begins = begins_there field all senders lost vets there long.of_senders in
      record {
        world = start field all senders lost vets there long.of_senders;
        begins = begins;
        passes = written_there field all senders lost vets there long.of_senders;
        bytes = writes_as_begun filing field all senders lost _ begins
            ∙ same_head filing.worth s all _ lost is.code_is is.smax_is
            ∙ loaded_bytes file ok is.bytes m filing.of own s is.settings rows links losses long.of_rows long.of_links long.of_losses filing.worth undone;
      }

  pub write_laws : WriteLaws m filing
  write_laws = record { as_begun = writes_as_begun filing; gives_back = gives_back }
