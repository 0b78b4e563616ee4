-- The record of a number stands at the front of the bytes from it on.
use Rattle.std.proofs.Common.{◌+◌, drop}
use Rattle.bucket_records.specs.Records.{records_bytes}
use Rattle.bucket_records.specs.Places.{key_of, value_of}
use Rattle.bucket_records.proofs.RecordPlaces.{front_there}
use Rattle.bucket_records.proofs.records.Records.front.Goals as goal

pub known_record-requires : goal.known_record-requires
known_record-requires c =
    let records = c.args.self.now in (
      key_of records c.args.place,
      value_of records c.args.place,
      records_bytes (drop (c.args.place + 1) records),
      front_there records c.args.place c.args.rest.now c.len-ordered.ensures.rise c.requires.within c.requires.rest,
    )

pub returns : goal.returns
returns c =
    let records = c.args.self.now in
    let key = key_of records c.args.place in
    let value = value_of records c.args.place in
    let behind = records_bytes (drop (c.args.place + 1) records) in
    let there = front_there records c.args.place c.args.rest.now c.len-ordered.ensures.rise c.requires.within c.requires.rest in
    record {
      key = c.known_record.ensures.key key value behind there;
      value = c.known_record.ensures.value key value behind there;
      behind = c.known_record.ensures.rest key value behind there;
      rise = c.len-ordered.ensures.rise;
    }
