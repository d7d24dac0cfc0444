use Rattle.table.specs.WellFormed.{header_values}
use Rattle.fields.specs.Layout.{form_value}
use Rattle.wellformed.proofs.header_values.Goals as goal

pub returns : goal.returns
unfolding header_values form_value
returns c =
    rw (
      c.both.ensures,
      c.rest_zero.ensures,
      c.both-grouped.ensures,
      c.between-5.ensures,
      c.files.ensures,
      c.both-sized.ensures,
      c.between-4.ensures,
      c.file_length.ensures,
      c.both-started.ensures,
      c.between-3.ensures,
      c.first.ensures,
      c.both-filled.ensures,
      c.between-2.ensures,
      c.both-roomy.ensures,
      c.between.ensures,
      c.between-given.ensures,
      c.used-used.ensures,
      c.capacity-capacity.ensures,
      c.form-form.ensures,
    )
