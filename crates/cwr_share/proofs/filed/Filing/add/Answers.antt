use Rattle.std.proofs.Common.{◌≡◌, ◌+◌, ◌++◌, ◌∷◌, ◌∙◌, [], ℕ, List, false, true, refl, sym, ap}
use Rattle.cwr_share.specs.Filed.{GoesOnBy}
use Rattle.cwr_share.specs.Records.{share_fields}
use Rattle.cwr_share.specs.Registrations.{share_line_of}
use Rattle.cwr_share.specs.declared.fields.ShareFields.{ShareFields}
use Rattle.cwr_share.specs.declared.fields.TheConstants.{SPT, SWT}
use Rattle.cwr_share.specs.declared.filed.FiledRegistration.{FiledRegistration}
use Rattle.cwr_share.specs.declared.filed.Filing.{Filing}
use Rattle.cwr_share.specs.declared.record_type.RecordType.{RecordType}
use Rattle.cwr_share.specs.declared.record_type.RecordType.TheVariants.{Interest, PublisherShare, WriterShare, Other}
use Rattle.cwr_share.proofs.FileLemmas.{IsOfType, of_type, type_ends, type_is_share, type_opens_interest}
use Rattle.cwr_share.proofs.FiledLemmas.{filed_interest, filed_other, filed_share, record_due}
use Rattle.cwr_share.proofs.filed.Filing.add.Goals.{in-Interest, in-PublisherShare+in_ok-add_share-in-PublisherShare, in-WriterShare+in_ok-add_share-in-WriterShare, in-Other}
use Rattle.cwr_share.proofs.filed.Filing.add.Goals as goal

pub add_share-requires-clause-sound : goal.add_share-requires-clause-sound
add_share-requires-clause-sound c =
    let line = c.args.line.now in
    let (body, filed, good) = c.requires.sound in
    let fields : share_fields line ≡ SPT = rw (sym c.in-PublisherShare.ensures) refl in
    rw fields at (record_due body line c.args.self.now filed good (of_type PublisherShare line (sym c.in-PublisherShare.ensures)).share)

pub add_share-requires-in-WriterShare-clause-sound : goal.add_share-requires-in-WriterShare-clause-sound
add_share-requires-in-WriterShare-clause-sound c =
    let line = c.args.line.now in
    let (body, filed, good) = c.requires.sound in
    let fields : share_fields line ≡ SWT = rw (sym c.in-WriterShare.ensures) refl in
    rw fields at (record_due body line c.args.self.now filed good (of_type WriterShare line (sym c.in-WriterShare.ensures)).share)

-- the registration goes on by a share line of either kind, whose fields stand there
by_share : (type : RecordType) (line : List ℕ) (fields : ShareFields) (old self added : Filing) → IsOfType type line → type_is_share type ≡ true → type_ends type ≡ false → type_opens_interest type ≡ false
    → share_fields line ≡ fields → self ≡ added → (added.filed.line ≡ old.filed.line) × (added.interest ≡ old.interest) × (added.number ≡ old.number)
    → added.filed.shares.items ≡ old.filed.shares.items ++ share_line_of old.interest fields line ∷ []
    → added.filed.numbers.items ≡ old.filed.numbers.items ++ (old.number + 1) ∷ []
    → GoesOnBy line old (record { filed = self.filed; interest = self.interest; number = self.number + 1 })
by_share type line fields old self added is share stays same at on (first, interest, count) shares numbers = (
  is.ends ∙ stays,
  ap (λ (f : Filing). f.filed.line) on ∙ first,
  λ body so_far. filed_share body line old (record { filed = self.filed; interest = self.interest; number = self.number + 1 }) so_far (is.share ∙ share) (is.interest ∙ same)
      (ap (λ (f : Filing). f.filed.line) on ∙ first) (ap (λ (f : Filing). f.interest) on ∙ interest) (ap (λ (f : Filing). f.number + 1) on ∙ ap (λ (n : ℕ). n + 1) count)
      (ap (λ (f : Filing). f.filed.shares.items) on ∙ (shares ∙ ap (λ (f : ShareFields). old.filed.shares.items ++ share_line_of old.interest f line ∷ []) (sym at)))
      (ap (λ (f : Filing). f.filed.numbers.items) on ∙ numbers),
)

pub returns-clause-on : goal.returns-clause-on
returns-clause-on c = λ _.
    let line = c.args.line.now in
    let old = c.args.self.now in
    let self = c.match-record_type_of.self in
    let next : Filing = record { filed = self.filed; interest = self.interest; number = self.number + 1 } in
    let on : GoesOnBy line old next = elim c.match-record_type_of.branch [
      | in-Interest w ↦
          let type = of_type Interest line (sym w.in-Interest.ensures) in
          let filed : next.filed ≡ old.filed = ap (λ (f : Filing). f.filed) w.self-is in (
            type.ends,
            ap (λ (f : FiledRegistration). f.line) filed,
            λ body so_far. filed_interest body line old next so_far type.share type.interest filed (ap (λ (f : Filing). f.number + 1) w.self-is) (ap (λ (f : Filing). f.interest) w.self-is),
          )
      | in-PublisherShare+in_ok-add_share-in-PublisherShare w ↦
          let added = w.in_ok-add_share-in-PublisherShare.ensures in
          by_share PublisherShare line SPT old self _ (of_type PublisherShare line (sym w.in-PublisherShare.ensures)) refl refl refl (rw (sym w.in-PublisherShare.ensures) refl) w.self-is
          added.rest added.shares added.numbers
      | in-WriterShare+in_ok-add_share-in-WriterShare w ↦
          let added = w.in_ok-add_share-in-WriterShare.ensures in
          by_share WriterShare line SWT old self _ (of_type WriterShare line (sym w.in-WriterShare.ensures)) refl refl refl (rw (sym w.in-WriterShare.ensures) refl) w.self-is
          added.rest added.shares added.numbers
      | in-Other w ↦
          let type = of_type Other line (sym w.in-Other.ensures) in
          let filed : next.filed ≡ old.filed = ap (λ (f : Filing). f.filed) w.self-is in (
            type.ends,
            ap (λ (f : FiledRegistration). f.line) filed,
            λ body so_far. filed_other body line old next so_far type.share type.interest filed (ap (λ (f : Filing). f.number + 1) w.self-is) (ap (λ (f : Filing). f.interest) w.self-is),
          )
    ] in on

pub returns-clause-shares : goal.returns-clause-shares
returns-clause-shares c = elim c.match-record_type_of.branch [
  | in-Interest w ↦ rw w.self-is c.requires.shares
  | in-PublisherShare+in_ok-add_share-in-PublisherShare w ↦ rw w.self-is w.in_ok-add_share-in-PublisherShare.ensures.few
  | in-WriterShare+in_ok-add_share-in-WriterShare w ↦ rw w.self-is w.in_ok-add_share-in-WriterShare.ensures.few
  | in-Other w ↦ rw w.self-is c.requires.shares
]
