mod Head_parts
