-- `correlate_channel` meets its contract: the channel's lines are a block, and its taps the kernel's values in the store. Assumes nothing.
use lib.ListN.{length}
use Rattle.error.specs.Scenes.{image_of}
use Rattle.field.proofs.FieldLaws.{own_fits, block_fits, channel_made}
use Rattle.field.proofs.correlate_channel.Goals as goal

pub invariant_of-values : goal.invariant_of-values
invariant_of-values c =
    let s = c.args.scene in
    record { fits = own_fits c.args.t s.width s.height (image_of s) c.args.cpp.now c.args.c c.requires.field_fits c.channel_kernel-kernel.result c.channel_kernel-kernel.ensures }

pub correlate-requires : goal.correlate-requires
correlate-requires c =
    let s = c.args.scene in
    let own = c.channel_kernel-kernel in
    rw (c.channel_block.ensures, c.values-taps.ensures) (block_fits c.args.t s.width s.height (image_of s) c.args.cpp.now c.args.c c.requires.field_fits own.result own.ensures (length c.args.line.now) (length c.args.cpe.now) c.requires.room.0 c.requires.room.1)

pub returns : goal.returns
returns c =
    let s = c.args.scene in
    let own = c.channel_kernel-kernel in
    channel_made c.args.t s.width s.height (image_of s) c.args.cpp.now c.args.c c.requires.field_fits own.result own.ensures c.channel_block.result c.args.cpe.now _ c.channel_block.ensures (rw c.values-taps.ensures at c.correlate.ensures)
