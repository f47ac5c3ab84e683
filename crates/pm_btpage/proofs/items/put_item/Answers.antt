use Rattle.pm_btpage.proofs.ItemWritten.{item_written}
use Rattle.pm_btpage.proofs.items.put_item.Goals as goal

pub returns : goal.returns
returns c =
    let written = item_written c.args.page.now c.put_bytes.new.page c.put_bytes-2.new.page c.pad_key.new.page c.put_u64.new.page c.args.key.now c.args.i c.offset-at.result c.args.word c.offset-at.ensures c.requires.within c.requires.some c.requires.short c.put_bytes.ensures.outside c.put_bytes.ensures.bytes c.put_bytes-2.ensures.outside c.put_bytes-2.ensures.bytes c.pad_key.ensures.outside c.pad_key.ensures.zeros c.put_u64.ensures.outside c.put_u64.ensures.value in
    record { item = written.item; sound = written.sound; outside = written.outside }
