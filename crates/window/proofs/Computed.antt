-- The cases, computed.
use mathlib.Core.Path.{◌≡◌, refl}
use mathlib.Core.Bool.{true}
use Rattle.sets.specs.Upto.{every, some, lowest, upward, among}
use Rattle.octets.specs.Bytes.{number, bytes_of, part, put, zeros, all_zero}
use Rattle.blocks.specs.Blocks.{block, with_block}
use Rattle.fields.specs.Layout.{get, store}
use Rattle.linking.specs.Linking.{chain, last_of}
use Rattle.window.specs.Windows.{places, width, younger, size, start, patch_in, record_with, record_of, next, path, patches, record_right, window_right, emptied, free, taken, left, youngest, added, laid, lastly, sent}
use Rattle.window.proofs.Cases.{same, all_true, one, run, after, offsets, line, window, crossed, downward, set, right, lays, cases}

pub cases-hold : all_true cases ≡ true
unfolding same all_true one run after offsets line window crossed downward set right lays cases every some lowest upward among number bytes_of part put zeros all_zero block with_block get store chain last_of places width younger size start patch_in record_with record_of next path patches record_right window_right emptied free taken left youngest added laid lastly sent
cases-hold = refl
